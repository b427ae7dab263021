use Rattle.std.proofs.Common.{rules, ℕ, Ok, Err, ◌≡◌, ◌-◌, ◌^◌}
use Rattle.cts_io.specs.Stream.{IsInterrupted, AnswersWrite}
use Rattle.cts_io.proofs.TriedLemmas.{none_interrupted, one_more_interrupted, denoted_at_last, denoted_at_the_limit}
use Rattle.cts_io.proofs.stream.write_prefix.Goals as goal

pub loop-try-init : goal.loop-try-init
loop-try-init g c = (search rules, none_interrupted (g.W.ByteWriter.writes c.args.piece.now) _)

pub returns-in-Ok-eq0-clause-denoted : goal.returns-in-Ok-eq0-clause-denoted
returns-in-Ok-eq0-clause-denoted g c some =
    denoted_at_last (g.W.ByteWriter.writes c.args.piece.now) AnswersWrite _ _ _ _
    (Ok c.in-Ok-eq0.field-0) _ c.loop-try.invariant.1
    (rw c.in-Ok-eq0.is at c.write_once.ensures.call) (search rules) (λ no. no)

pub returns-in-Ok-clause-denoted : goal.returns-in-Ok-clause-denoted
returns-in-Ok-clause-denoted g c some =
    denoted_at_last (g.W.ByteWriter.writes c.args.piece.now) AnswersWrite _ _ _ _
    (Ok c.in-Ok.taken) _ c.loop-try.invariant.1 c.in-Ok.ensures.call (search rules) (λ no. no)

pub returns-in-Err-2-clause-denoted : goal.returns-in-Err-2-clause-denoted
returns-in-Err-2-clause-denoted g c some =
    denoted_at_last (g.W.ByteWriter.writes c.args.piece.now) AnswersWrite _ _ _ _
    (Err c.in-Err.error) _ c.loop-try.invariant.1 c.in-Err.ensures.call (search rules)
    (search rules)

pub loop-try-preserved : goal.loop-try-preserved
loop-try-preserved g c =
    let interrupted : IsInterrupted {A = ℕ} (Err c.in-Err.error) = search rules in (
      search rules,
      one_more_interrupted (g.W.ByteWriter.writes c.args.piece.now) _ _ _ _
          (Err c.in-Err.error) c.loop-try.invariant.1 c.in-Err.ensures.call interrupted,
    )

pub returns-clause-denoted : goal.returns-clause-denoted
returns-clause-denoted g c some =
    let limit : c.loop-try._try ≡ 2 ^ 64 - 1 = search rules in
    denoted_at_the_limit (g.W.ByteWriter.writes c.args.piece.now) AnswersWrite _ _ _ _
    c.loop-try.invariant.1 limit (search rules)
