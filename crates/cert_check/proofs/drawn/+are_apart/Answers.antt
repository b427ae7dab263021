use Rattle.std.proofs.Common.{refl}
use Rattle.cert_check.proofs.WayLemmas.{not_pairs_pieces, pairs_pieces}
use Rattle.cert_check.proofs.drawn.+are_apart.Goals as goal

pub returns-then-is_apart_from_all : goal.returns-then-is_apart_from_all
returns-then-is_apart_from_all t c =
    pairs_pieces c.args.from c.args.points.now c.in-len1-up.len_at_least
    (c.if-is_apart_from_all.ensures.0 refl) c.are_apart.result c.are_apart.ensures

pub returns-else-is_apart_from_all : goal.returns-else-is_apart_from_all
returns-else-is_apart_from_all t c =
    not_pairs_pieces c.args.from c.args.points.now c.in-len1-up.len_at_least
    c.is_apart_from_all.result c.is_apart_from_all.ensures c.if-is_apart_from_all.false
