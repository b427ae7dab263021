-- The pairs are those of the constraints.
use Rattle.cert_check.proofs.Vocabulary.{◌<◌, ◌∙◌, ℕ, All, length, subst, sym, AreDelaysBetween}
use Rattle.std.specs.Result.{IfOk}
use Rattle.cert_check.proofs.ConstraintTests.{pairs_among}
use Rattle.cert_check.proofs.judge.Judge.delays_of.Goals as goal

pub delays_between-requires : goal.delays_between-requires
delays_between-requires c =
    let registers = length c.args.self.now.problem.now.circuit.registers in
    rw c.requires.paths
    (subst (λ pairs. All (λ (pair : ℕ × ℕ). (pair.0 < registers) × (pair.1 < registers)) pairs)
    (sym (c.as_slice.ensures.value ∙ c.in_ok-pairs.ensures))
    (pairs_among registers c.args.constraints.now c.requires.among))

pub returns-clause-delays : goal.returns-clause-delays
returns-clause-delays c =
    rw c.requires.paths at (subst (λ pairs. IfOk c.delays_between.result
    (AreDelaysBetween c.args.paths.now.circuit c.args.paths.now.tech pairs))
    (c.as_slice.ensures.value ∙ c.in_ok-pairs.ensures) c.delays_between.ensures.delays)
