-- The ring is a cycle with a total above 0, which shows more than the ratio.
use Rattle.critical_cycle.proofs.Vocabulary.{◌≡◌, ◌∙◌, ℕ, List, ap, subst, sym, arith, drop, with_items, with_items_is, AreWithin, IsShown}
use Rattle.critical_cycle.proofs.SearchLemmas.{ring_shows}
use Rattle.critical_cycle.proofs.trials.Trials.raise.Goals as goal

pub invariant_of-cycle-clause-within : goal.invariant_of-cycle-clause-within
invariant_of-cycle-clause-within c =
    let places = c.go_round-start.new.places in
    let whole : (with_items c.args.self.search.places places).items ≡ places = with_items_is
    c.args.self.search.places places
    (omega (arith, c.go_round-start.ensures.len, c.deref_mut.ensures.len)) in
    subst (AreWithin c.args.self.search.constraints.now) (sym (c.split_at.ensures.back
    ∙ ap (λ (ps : List ℕ). drop c.go_round-start.result ps) (c.deref.ensures.value ∙ whole)))
    c.go_round-start.ensures.within

pub invariant_of-cycle-clause-small : goal.invariant_of-cycle-clause-small
invariant_of-cycle-clause-small c =
    λ place d within. (c.args.self.search.small.each place d within).weight

pub invariant_of-search-2-clause-shows : goal.invariant_of-search-2-clause-shows
invariant_of-search-2-clause-shows c =
    let search = c.args.self.search in
    let places = c.go_round-start.new.places in
    let whole : (with_items c.args.self.search.places places).items ≡ places = with_items_is
    c.args.self.search.places places
    (omega (arith, c.go_round-start.ensures.len, c.deref_mut.ensures.len)) in
    let shows = ring_shows c.args.self.search c.go_round-start.result places c.split_at.result.1.now
    c.raise_by-search.result c.requires.at_shown (c.split_at.ensures.back
    ∙ ap (λ (ps : List ℕ). drop c.go_round-start.result ps) (c.deref.ensures.value ∙ whole))
    c.go_round-start.ensures.within c.go_round-start.ensures.cycle (c.go_round-start.ensures.gains
    c.args.self.search.trial c.args.self.relaxation.values.items
    (rw c.as_slice-parents.ensures.value
    c.requires.far_up.are_parents)) c.raise_by-search.ensures in
    subst (λ ps. IsShown search.measure search.constraints.now search.first
    (drop c.go_round-start.result ps) c.raise_by-search.result) (sym whole) shows.0

pub returns-clause-less : goal.returns-clause-less
returns-clause-less c =
    let places = c.go_round-start.new.places in
    let whole : (with_items c.args.self.search.places places).items ≡ places = with_items_is
    c.args.self.search.places places
    (omega (arith, c.go_round-start.ensures.len, c.deref_mut.ensures.len)) in
    let shows = ring_shows c.args.self.search c.go_round-start.result places c.split_at.result.1.now
    c.raise_by-search.result c.requires.at_shown (c.split_at.ensures.back
    ∙ ap (λ (ps : List ℕ). drop c.go_round-start.result ps) (c.deref.ensures.value ∙ whole))
    c.go_round-start.ensures.within c.go_round-start.ensures.cycle (c.go_round-start.ensures.gains
    c.args.self.search.trial c.args.self.relaxation.values.items
    (rw c.as_slice-parents.ensures.value
    c.requires.far_up.are_parents)) c.raise_by-search.ensures in
    shows.1
