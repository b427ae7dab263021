use Rattle.report_text.proofs.Vocabulary.{◌^◌, w128, to_z-of_z, signed_decimal, IsBelow}
use Rattle.report_text.proofs.ScanLemmas.{takes_word}
use Rattle.report_text.proofs.scan.Scan.weight.Goals as goal

pub returns : goal.returns
returns c circuit =
    rw (to_z-of_z w128 c.keep.result (record { sfits = c.keep.type_inv })) (takes_word _ _
    c.next-word.ensures.taken (c.read_weight.ensures.flaw circuit) c.keep.ensures.kept
    signed_decimal (IsBelow (10 ^ 12)) c.read_weight.ensures.value)
