use Rattle.report_text.proofs.ScanLemmas.{takes_text}
use Rattle.report_text.proofs.scan.Scan.named.Goals as goal

pub returns : goal.returns
returns c =
    takes_text _ _ c.next-word.ensures.taken c.read_named.ensures.flaw c.keep.ensures.kept
    _ c.read_named.ensures.value
