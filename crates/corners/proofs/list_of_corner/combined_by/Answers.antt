-- A turn includes the list of one corner more, and in the end all are combined.
use Rattle.std.proofs.Common.{◌≡◌, ◌∙◌, length, sym, ap, arith}
use Rattle.corners.proofs.CommonLemmas.{combined_first, combined_more, common_of_all, same_length, table_at}
use Rattle.corners.proofs.list_of_corner.combined_by.Goals as goal

pub loop-corner-init : goal.loop-corner-init
loop-corner-init c = search (arith, combined_first, table_at)

pub include-requires-clause-constraints : goal.include-requires-clause-constraints
include-requires-clause-constraints c =
    let tech = c.index-techs-corner.result in
    let corner = c.loop-corner.corner in
    same_length c.args.circuit.now c.args.techs.now corner c.loop-corner.combined
    c.loop-corner.invariant tech c.in_ok-next.next
    (table_at c.args.techs.now corner tech c.loop-corner-test.true c.index-techs-corner.is)
    c.in_ok-next.ensures.ok c.loop-corner.auto.corner ∙ ap length (sym c.as_slice.ensures)

pub include-requires-clause-corners : goal.include-requires-clause-corners
include-requires-clause-corners c =
    c.loop-corner.invariant.is.named ∙ include-requires-clause-constraints c

pub loop-corner-preserved : goal.loop-corner-preserved
loop-corner-preserved c = search (arith, combined_more, table_at)

pub returns-clause-ok : goal.returns-clause-ok
returns-clause-ok c =
    let techs = c.args.techs.now in
    let all : c.loop-corner.corner ≡ length techs =
    omega (arith, c.loop-corner-test.false, c.loop-corner.auto, c.requires.some) in
    common_of_all c.args.circuit.now techs c.loop-corner.combined
    (rw all at c.loop-corner.invariant) c.requires.some c.requires.corners
