use Rattle.cert_check.proofs.Vocabulary.{refl, AreApart, piece}
use Rattle.cert_check.proofs.WayLemmas.{all_pieces, not_all_pieces}
use Rattle.cert_check.proofs.drawn.+is_apart_from_all.Goals as goal

pub returns-then-is_apart : goal.returns-then-is_apart
returns-then-is_apart t c =
    all_pieces c.args.start c.args.points.now c.in-len1-up.len_at_least
    (AreApart (piece c.args.from c.args.to))
    (c.if-is_apart.ensures.0 refl) c.is_apart_from_all.result c.is_apart_from_all.ensures

pub returns-else-is_apart : goal.returns-else-is_apart
returns-else-is_apart t c =
    not_all_pieces c.args.start c.args.points.now c.in-len1-up.len_at_least
    (AreApart (piece c.args.from c.args.to))
    c.is_apart.result c.is_apart.ensures c.if-is_apart.false
