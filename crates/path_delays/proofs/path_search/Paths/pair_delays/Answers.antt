use Rattle.path_delays.proofs.Vocabulary.{◌∙◌, ap, arith, length, rules}
use Rattle.path_delays.specs.TimedCircuits.{TimedCircuit}
use Rattle.path_delays.proofs.PairWalk.{none_before, all_listed}
use Rattle.path_delays.proofs.PairCounts.{not_more}
use Rattle.path_delays.proofs.path_search.Paths.pair_delays.Goals as goal

pub loop-first-init : goal.loop-first-init
loop-first-init c = grind (arith, none_before)

pub returns : goal.returns
returns c =
    let all = all_listed c.args.self.now.circuit c.args.self.now.tech c.loop-first.first
    c.loop-first.pairs.list.items (omega (
      arith,
      c.loop-first-test.false,
      c.len.ensures,
      ap (λ (t : TimedCircuit).
          length t.circuit.registers) (c.self-in-loop-first.view_is ∙ c.loop-first.invariant.same),
    ))
    (omega (arith, c.loop-first.pairs.list.ok.0)) c.loop-first.invariant.listed in
    record {
      ok = rw c.from_vec.ensures all;
      few = λ more. not_more all.lists more all.few;
      many = search rules;
      same = search rules;
    }
