use Rattle.std.proofs.Common.{rules, refl, Err, ◌≡◌, ◌-◌, ◌^◌}
use Rattle.cts_io.specs.Stream.{IsInterrupted, AnswersOpen}
use Rattle.cts_io.proofs.TriedLemmas.{none_interrupted, one_more_interrupted, denoted_at_the_limit}
use Rattle.cts_io.proofs.opener.open_file.Goals as goal

pub loop-try-init : goal.loop-try-init
loop-try-init g c = none_interrupted (g.O.FileOpener.opens c.args.name.now) _

pub loop-try-preserved : goal.loop-try-preserved
loop-try-preserved g c =
    let interrupted : IsInterrupted {A = g.row.O-File.Denot} (Err c.in-Err.error) = search rules in
    one_more_interrupted (g.O.FileOpener.opens c.args.name.now) _ _ _ _ (Err c.in-Err.error)
    c.loop-try.invariant c.in-Err.ensures.call interrupted

pub returns : goal.returns
returns g c =
    let limit : c.loop-try._try ≡ 2 ^ 64 - 1 = search rules in
    record {
      denoted = denoted_at_the_limit (g.O.FileOpener.opens c.args.name.now) AnswersOpen _ _ _ _
          c.loop-try.invariant limit
          (λ error interrupted. (λ memory. cc (interrupted, memory), λ other. refl));
    }
