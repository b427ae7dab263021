-- A turn includes one place more, and in the end the list is included.
use Rattle.std.proofs.Common.{◌≡◌, length, arith}
use Rattle.corners.proofs.InclusionLemmas.{including_none, including_next, included}
use Rattle.corners.proofs.fold.Combined.include.Goals as goal

pub loop-place-init : goal.loop-place-init
loop-place-init c = including_none c.args.list.now c.args.corner c.args.self.now
    c.requires.constraints c.requires.corners

pub loop-place-preserved : goal.loop-place-preserved
loop-place-preserved c = search (arith, including_next)

pub returns : goal.returns
returns c =
    let all : c.loop-place.place ≡ length c.args.list.now =
    omega (arith, c.loop-place-test.false, c.loop-place.auto) in
    included c.args.list.now c.args.corner c.args.self.now c.loop-place.self
    c.requires.constraints (rw all at c.loop-place.invariant)
