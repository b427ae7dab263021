use Rattle.report_text.proofs.Vocabulary.{◌∙◌, append_assoc, take_all}
use Rattle.report_text.proofs.LineLemmas.{join_with_byte-map}
use Rattle.report_text.proofs.line.push_line.Goals as goal

pub returns : goal.returns
returns c =
    let all = take_all c.loop-other.other-index c.args.others.now c.loop-other-test.false in
    c.in_ok-push.ensures.items
    ∙ rw (
      c.loop-other.invariant,
      all,
      join_with_byte-map (λ other. other.now) 32 c.args.word.now c.args.others.now,
    ) (simp append_assoc)
