-- One more.
use Rattle.cert_check.proofs.Vocabulary.{◌≡◌, ◌*◌, ◌^◌, All, length, refl, subst, sym, IsBelow, number_at, AreWiresDown, Skewed}
use Rattle.cert_check.proofs.FirstPlaces.{each_more, fails_here}
use Rattle.cert_check.proofs.shaped.ShapedTree.judge_skews.Goals as goal

pub loop-register-preserved : goal.loop-register-preserved
loop-register-preserved c = each_more (Skewed c.args.self.now.judge)
    c.loop-register.register c.loop-register.invariant
    (c.is_skewed.ensures.0 c.if-not-is_skewed.false)

pub returns-then-not-is_skewed : goal.returns-then-not-is_skewed
returns-then-not-is_skewed c = (
  c.loop-register.register,
  fails_here _ (Skewed c.args.self.now.judge) c.loop-register.register c.is_skewed.result
      c.loop-register-test.true c.loop-register.invariant c.is_skewed.ensures
      c.if-not-is_skewed.true,
  refl,
)

pub invariant_of-tree : goal.invariant_of-tree
invariant_of-tree c =
    let self = c.args.self.now in
    let sinks = length self.judge.sinks.now in
    let merges = self.judge.report.now.topology.merges in
    let are = sym c.as_slice.ensures.value in
    record {
      topology = self.are.topology;
      down = subst (λ wires. AreWiresDown sinks merges
          (number_at self.judge.report.now.tree.length) (number_at wires)) are
          c.in_ok-wires.ensures.wires;
      all = subst (λ wires. length wires ≡ 2 * sinks) are c.in_ok-wires.ensures.all;
      small = subst (All (IsBelow (10 ^ 36))) are c.in_ok-wires.ensures.small;
    }
