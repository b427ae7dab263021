use Rattle.demo_input.specs.PlacementLines.{place_line}
use Rattle.demo_input.proofs.LineLemmas.{more_lines}
use Rattle.demo_input.proofs.placement.push_places.Goals as goal

pub loop-register-preserved : goal.loop-register-preserved
loop-register-preserved c =
    more_lines (place_line c.args.seed) c.loop-register.register
    c.args.out.now.items c.loop-register.out.items c.push_place.new.out.items
    c.loop-register.invariant c.in_ok-push_place.ensures
