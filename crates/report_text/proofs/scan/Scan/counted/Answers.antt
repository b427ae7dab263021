use Rattle.report_text.proofs.ScanLemmas.{takes_word}
use Rattle.report_text.proofs.scan.Scan.counted.Goals as goal

pub returns : goal.returns
returns c circuit =
    takes_word _ _ c.next-word.ensures.taken (c.read_counted.ensures.flaw circuit)
    c.keep.ensures.kept
    _ _ c.read_counted.ensures.value
