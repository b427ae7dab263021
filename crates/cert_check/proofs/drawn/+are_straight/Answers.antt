use Rattle.cert_check.proofs.Vocabulary.{refl, IsStraight}
use Rattle.cert_check.proofs.WayLemmas.{all_pieces, not_all_pieces}
use Rattle.cert_check.proofs.drawn.+are_straight.Goals as goal

pub returns-then-is_straight : goal.returns-then-is_straight
returns-then-is_straight t c =
    all_pieces c.args.from c.args.points.now c.in-len1-up.len_at_least IsStraight
    (c.if-is_straight.ensures.0 refl) c.are_straight.result c.are_straight.ensures

pub returns-else-is_straight : goal.returns-else-is_straight
returns-else-is_straight t c =
    not_all_pieces c.args.from c.args.points.now c.in-len1-up.len_at_least IsStraight
    c.is_straight.result c.is_straight.ensures c.if-is_straight.false
