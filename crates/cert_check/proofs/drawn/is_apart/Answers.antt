use Rattle.cert_check.proofs.ApartLemmas.{apart_by_share, share_by_apart}
use Rattle.cert_check.proofs.drawn.is_apart.Goals as goal

pub returns : goal.returns
returns c =
    let from = c.args.from in
    let to = c.args.to in
    let start = c.args.start in
    let end = c.args.end in
    let is = rw (
      c.common-x.ensures.least,
      c.common-x.ensures.greatest,
      c.common-y.ensures.least,
      c.common-y.ensures.greatest,
      c.across.ensures.from,
      c.across.ensures.to,
      c.across-2.ensures.from,
      c.across-2.ensures.to,
      c.upwards.ensures.from,
      c.upwards.ensures.to,
      c.upwards-2.ensures.from,
      c.upwards-2.ensures.to,
    ) at c.share.ensures in (
      λ holds. apart_by_share from to start end (is.0 holds),
      λ apart. is.1 (share_by_apart from to start end apart),
    )
