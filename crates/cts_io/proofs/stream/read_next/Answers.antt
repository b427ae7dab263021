use Rattle.std.proofs.Common.{rules, refl, ℕ, Ok, Err, ◌≡◌, ◌-◌, ◌^◌}
use Rattle.cts_io.specs.Stream.{IsInterrupted, AnswersRead}
use Rattle.cts_io.proofs.TriedLemmas.{none_interrupted, one_more_interrupted, denoted_at_last, denoted_at_the_limit}
use Rattle.cts_io.proofs.stream.read_next.Goals as goal

pub loop-try-init : goal.loop-try-init
loop-try-init g c = (refl, search rules, none_interrupted g.R.ByteReader.reads _)

pub returns-in-Ok-clause-denoted : goal.returns-in-Ok-clause-denoted
returns-in-Ok-clause-denoted g c =
    denoted_at_last g.R.ByteReader.reads AnswersRead _ _ _ _
    (Ok c.in-Ok.count) _ c.loop-try.invariant.2 c.in-Ok.ensures.call refl (λ no. no)

pub returns-in-Err-2-clause-denoted : goal.returns-in-Err-2-clause-denoted
returns-in-Err-2-clause-denoted g c =
    denoted_at_last g.R.ByteReader.reads AnswersRead _ _ _ _ (Err c.in-Err.error) _
    c.loop-try.invariant.2 c.in-Err.ensures.call (search rules) (search rules)

pub loop-try-preserved : goal.loop-try-preserved
loop-try-preserved g c =
    let interrupted : IsInterrupted {A = ℕ} (Err c.in-Err.error) = search rules in (
      search rules,
      search rules,
      one_more_interrupted g.R.ByteReader.reads _ _ (c.loop-try.stream, c.loop-try.into) _
          (Err c.in-Err.error) c.loop-try.invariant.2 c.in-Err.ensures.call interrupted,
    )

pub returns-clause-denoted : goal.returns-clause-denoted
returns-clause-denoted g c =
    let limit : c.loop-try._try ≡ 2 ^ 64 - 1 = search rules in
    denoted_at_the_limit g.R.ByteReader.reads AnswersRead _ _ _ _ c.loop-try.invariant.2 limit
    (search rules)
