-- The offer is kept, or nothing changes.
use Rattle.relaxation.proofs.Vocabulary.{◌∙◌, ap, refl, get_or, slice_get-get_or, Constraint}
use Rattle.std.proofs.Math.ListN.{set}
use Rattle.relaxation.proofs.RelaxLemmas.{nowhere, offer_kept}
use Rattle.relaxation.proofs.relaxation.Relaxation.relax.Goals as goal

pub returns : goal.returns
returns c =
    let constraints = c.args.self.now.constraints.now in
    let constraint : Constraint = get_or constraints c.args.place nowhere in
    let offered = c.in_ok-offer.ensures in
    rw (slice_get-get_or constraints c.args.place nowhere c.requires.place) (record {
      head = refl;
      more = offered.more;
      values = c.keep_parent.ensures.values
          ∙ ap (set c.args.self.now.values.items constraint.head)
          (offer_kept c.in_ok-offer.offer offered.small ∙ offered.is);
      parents = c.keep_parent.ensures.parents;
      constraints = c.keep_parent.ensures.constraints;
    })
