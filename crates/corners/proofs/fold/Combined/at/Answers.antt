-- A turn adds what stands at one place more.
use Rattle.corners.proofs.Vocabulary.{◌<◌, length, sym, take_all}
use Rattle.std.proofs.Common.{All}
use Rattle.corners.proofs.CornerPlaces.{at_places_more}
use Rattle.corners.proofs.fold.Combined.at.Goals as goal

pub loop-place-preserved : goal.loop-place-preserved
loop-place-preserved c =
    let places = c.args.places.now in
    let combined = c.args.self.now in
    let corners : All (λ place. place < length combined.corner) places =
    rw c.requires.corners c.requires.within in
    record {
      constraints = rw (
        c.in_ok-push.ensures.ok,
        c.loop-place.invariant.constraints,
        c.as_slice.ensures,
      )
          (sym (at_places_more combined.constraints places _ _ _ c.loop-place-test.true
          c.requires.within));
      corners = rw (
        c.in_ok-push-2.ensures.ok,
        c.loop-place.invariant.corners,
        c.as_slice-in-loop-place.ensures,
      )
          (sym (at_places_more combined.corner places _ _ _ c.loop-place-test.true corners));
    }

pub returns : goal.returns
returns c =
    let all = take_all c.loop-place.place-index c.args.places.now c.loop-place-test.false in
    record {
      constraints = rw all at c.loop-place.invariant.constraints;
      corners = rw all at c.loop-place.invariant.corners;
    }
