use Rattle.failure_lines.proofs.LineLemmas.{puts_failed, puts_rest}
use Rattle.failure_lines.proofs.line.Line.flush.Goals as goal
use Rattle.failure_lines.proofs.line.Line.flush.Goals.{then-not-self, else-not-self}

pub returns-clause-told : goal.returns-clause-told
returns-clause-told g c = elim c.if-not-self.branch [
  | then-not-self w ↦
      let ends = w.write_whole.ensures in
      rw (
        w.self-inside-is,
        w.err-is,
        ← c.self.view_is,
        w.if-not-self.true,
        w.is_err-self-inside.ensures.value,
      )
      (puts_rest w.write_whole.result _ _ _ _ _ ends.ok ends.err ends.failed ends.count)
  | else-not-self w ↦
      rw (w.self-inside-is, w.err-is, ← c.self.view_is, w.if-not-self.false)
      (puts_failed _ _ _ _)
]
