use Rattle.report_text.proofs.ScanLemmas.{takes_word}
use Rattle.report_text.proofs.scan.Scan.period.Goals as goal

pub returns : goal.returns
returns c circuit =
    takes_word _ _ c.next-word.ensures.taken (c.read_period.ensures.flaw circuit)
    c.keep.ensures.kept
    _ _ c.read_period.ensures.value
