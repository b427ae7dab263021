-- The cycle comes last in the list, and shows more than was shown.
use Rattle.critical_cycle.proofs.Vocabulary.{◌≡◌, ◌∙◌, ap, subst, sym, arith, drop, length, with_items, with_items_is, IsShown}
use Rattle.critical_cycle.proofs.SearchLemmas.{can_try, raise_shows}
use Rattle.critical_cycle.proofs.search.Search.consider.Goals as goal

pub raise_by-shown-requires : goal.raise_by-shown-requires
raise_by-shown-requires c =
    let search = c.args.self.now in
    can_try search.measure search.constraints.now search.first _ search.shown c.in-Some.ratio
    search.can search.shows c.in-Some.ensures

pub invariant_of-self-clause-shows : goal.invariant_of-self-clause-shows
invariant_of-self-clause-shows c =
    let before = c.args.self.now in
    let places = c.put_last-self.new.places in
    let whole : (with_items before.places places).items ≡ places = with_items_is
    before.places places (omega (arith, c.put_last-self.ensures.len, c.deref_mut.ensures.len)) in
    let shows = raise_shows before.measure before.constraints.now before.first _ c.args.cycle.now
    before.shown c.raise_by-shown.result c.in-Some.ratio before.can before.shows c.in-Some.ensures
    c.requires.within c.requires.cycle c.in_default-shown.not-First c.raise_by-shown.ensures in
    subst (λ ps. IsShown before.measure before.constraints.now before.first ps
    c.raise_by-shown.result) (sym (ap (λ ps. drop c.put_last-self.result ps) whole
    ∙ c.put_last-self.ensures.last)) shows.0

pub invariant_of-self-clause-within : goal.invariant_of-self-clause-within
invariant_of-self-clause-within c =
    let before = c.args.self.now in
    let places = c.put_last-self.new.places in
    let whole : (with_items before.places places).items ≡ places = with_items_is
    before.places places (omega (arith, c.put_last-self.ensures.len, c.deref_mut.ensures.len)) in
    omega (arith, ap length whole, c.put_last-self.ensures.start)
