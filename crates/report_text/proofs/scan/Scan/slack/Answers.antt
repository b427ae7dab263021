use Rattle.report_text.proofs.Vocabulary.{w128, to_z-of_z, slack_text, IsSmallSlack}
use Rattle.report_text.proofs.NumberWords.{fits}
use Rattle.report_text.proofs.ScanLemmas.{takes_word}
use Rattle.report_text.proofs.scan.Scan.slack.Goals as goal

pub returns : goal.returns
returns c circuit =
    let scale = c.args.rules.now.scale in
    let over = to_z-of_z w128 scale.den (fits scale.den c.args.rules.now.small.small_den) in
    takes_word _ _ c.next-word.ensures.taken (rw over at (c.read_slack.ensures.flaw circuit))
    c.keep.ensures.kept slack_text (IsSmallSlack scale.den) (rw over at c.read_slack.ensures.value)
