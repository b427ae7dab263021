use Rattle.std.proofs.Common.{rules, ℕ, ◌<◌, ◌++◌, ◌∙◌, length, take, ap, arith}
use Rattle.std.proofs.lemmas.Grind.{common_steps}
use Rattle.cts_io.specs.Device.{appended, WritesPrefix}
use Rattle.cts_io.proofs.WholeLemmas.{appended-appended, append-moved, WritesPrefix-rest}
use Rattle.cts_io.proofs.whole.write_whole.Goals as goal

pub returns-in_err-taken-clause-err : goal.returns-in_err-taken-clause-err
returns-in_err-taken-clause-err g c =
    let i = c.loop-rest.invariant in
    let some : 0 < length c.loop-rest.rest.now = grind (arith, common_steps) in
    let kept : WritesPrefix (g.S.Sink.written c.args.sink.now) c.args.bytes.now
    (g.S.Sink.written c.write.new.self) =
    WritesPrefix-rest _ _ _ _ _ i.parts some (c.in_err-taken.ensures.err ∙ i.written) in
    search rules

pub loop-rest-preserved : goal.loop-rest-preserved
loop-rest-preserved g c =
    let i = c.loop-rest.invariant in
    let n : ℕ = c.in_ok-taken.taken in
    record {
      done = i.done ++ take n c.loop-rest.rest.now;
      parts = rw c.split_at.ensures.back (append-moved _ i.done c.loop-rest.rest.now n i.parts);
      written = c.in_ok-taken.ensures.ok
          ∙ ap (λ denoted. appended denoted (take n c.loop-rest.rest.now)) i.written
          ∙ appended-appended _ _ _;
      stays = c.in_ok-taken.ensures.stays ∙ i.stays;
    }
