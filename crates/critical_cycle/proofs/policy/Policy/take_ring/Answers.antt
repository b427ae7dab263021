-- The search and the rounds are over the same constraints.
use Rattle.critical_cycle.proofs.Vocabulary.{◌≡◌, ◌∙◌, ℕ, List, ap, arith, drop, subst, sym, with_items, with_items_is, AreWithin}
use Rattle.critical_cycle.proofs.policy.Policy.take_ring.Goals as goal

pub consider-requires-clause-within : goal.consider-requires-clause-within
consider-requires-clause-within c =
    let marks = c.args.self.now.rounds.marks in
    let places = c.go_round-start.new.places in
    let whole : (with_items marks places).items ≡ places = with_items_is marks places
    (omega (arith, c.go_round-start.ensures.len, c.deref_mut.ensures.len)) in
    subst (λ them. AreWithin them c.split_at.result.1.now) c.args.self.now.constraints
    (subst (AreWithin c.args.self.now.rounds.relaxation.constraints.now)
    (sym (c.split_at.ensures.back ∙ ap (λ (ps : List ℕ). drop c.go_round-start.result ps)
    (c.deref.ensures.value ∙ whole))) c.go_round-start.ensures.within)
