use Rattle.report_text.proofs.ScanLemmas.{takes_text}
use Rattle.report_text.proofs.scan.Scan.exactly.Goals as goal

pub returns : goal.returns
returns c circuit =
    takes_text _ _ c.next-word.ensures.taken (c.read_exactly.ensures.flaw circuit)
    c.keep.ensures.kept
    _ c.read_exactly.ensures.value
