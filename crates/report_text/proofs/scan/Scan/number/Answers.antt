use Rattle.report_text.proofs.ScanLemmas.{takes_word}
use Rattle.report_text.proofs.scan.Scan.number.Goals as goal

pub returns : goal.returns
returns c circuit =
    takes_word _ _ c.next-word.ensures.taken (c.read_number.ensures.flaw circuit)
    c.keep.ensures.kept
    _ _ c.read_number.ensures.value
