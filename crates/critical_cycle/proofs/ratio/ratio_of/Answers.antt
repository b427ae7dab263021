-- The cycle that is shown, from its lowest tail on.
use Rattle.critical_cycle.proofs.Vocabulary.{subst, IsSettled, IsShown, drop}
use Rattle.critical_cycle.proofs.RatioLemmas.{shown_rotated, forbidden_rotated}
use Rattle.critical_cycle.proofs.ratio.ratio_of.Goals as goal

pub returns-in-Value : goal.returns-in-Value
returns-in-Value c =
    let search = c.args.search in
    let shown = subst (λ s. IsShown search.measure search.constraints.now search.first
    (drop search.start search.places.items) s) c.in-Value.is search.shows in
    let settled = subst (λ s. IsSettled search.measure search.constraints.now search.first s)
    c.in-Value.is c.requires in
    shown_rotated search.measure search.constraints.now (drop search.start search.places.items)
    c.cycle_of.result c.cycle_of.ensures.rotated.0 c.cycle_of.ensures.rotated.1
    c.cycle_of.ensures.lowest search.first c.in-Value.value shown settled.0 settled.1

pub returns-in-Never : goal.returns-in-Never
returns-in-Never c =
    let search = c.args.search in
    let shown = subst (λ s. IsShown search.measure search.constraints.now search.first
    (drop search.start search.places.items) s) c.in-Never.is search.shows in
    forbidden_rotated search.measure search.constraints.now (drop search.start search.places.items)
    c.cycle_of-in-Never.result c.cycle_of-in-Never.ensures.rotated.0
    c.cycle_of-in-Never.ensures.rotated.1 c.cycle_of-in-Never.ensures.lowest shown
