use Rattle.report_text.proofs.ScanLemmas.{takes_word}
use Rattle.report_text.proofs.scan.Scan.from.Goals as goal

pub returns : goal.returns
returns c =
    takes_word _ _ c.next-word.ensures.taken c.read_from.ensures.flaw c.keep.ensures.kept
    _ _ c.read_from.ensures.value
