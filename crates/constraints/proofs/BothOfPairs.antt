-- The two constraints of each pair in the list of all.
use Rattle.std.proofs.Common.{◌≡◌, ◌<◌, ◌+◌, ℕ, List, [], ◌∷◌, ◌++◌, length, get_or, take, sym, ap, ◌∙◌, arith}
use Rattle.std.specs.List.{All}
use Rattle.std.proofs.lemmas.List.{append_assoc, flat_map_more, take_more}
use Rattle.std.proofs.lemmas.List.Elements.{All-nil, All-cons, All-head, All-tail}
use Rattle.cts_model.specs.declared.tech.Tech.{Tech}
use Rattle.cts_model.specs.declared.timing.PairDelay.{PairDelay}
use Rattle.cts_model.specs.declared.constraint.Constraint.{Constraint}
use Rattle.constraints.specs.PairConstraints.{setup_constraint, hold_constraint, constraints_of_pair, constraints_of_pairs}

-- both constraints of the pair have the property
abbrev pub HaveBoth : Tech → (Constraint → Type 0) → PairDelay → Type 0
HaveBoth tech Property pair =
    Property (setup_constraint tech.setup pair) × Property (hold_constraint tech.hold pair)

module _ (tech : Tech) where
  -- what both constraints of each pair have, all have
  pub all_from_each : (Property : Constraint → Type 0) (pairs : List PairDelay)
      → All (HaveBoth tech Property) pairs → All Property (constraints_of_pairs tech pairs)
  all_from_each Property [] each = All-nil Property
  all_from_each Property (pair ∷ pairs) each =
      let both = All-head (HaveBoth tech Property) pair pairs each in
      let rest = all_from_each Property pairs (All-tail (HaveBoth tech Property) pair pairs each) in
      let hold = hold_constraint tech.hold pair in
      let more = constraints_of_pairs tech pairs in
      All-cons Property (setup_constraint tech.setup pair) (hold ∷ more) both.0
      (All-cons Property hold more both.1 rest)

  -- and the other way round
  pub each_from_all : (Property : Constraint → Type 0) (pairs : List PairDelay)
      → All Property (constraints_of_pairs tech pairs) → All (HaveBoth tech Property) pairs
  each_from_all Property [] all = All-nil (HaveBoth tech Property)
  each_from_all Property (pair ∷ pairs) all =
      let setup = setup_constraint tech.setup pair in
      let hold = hold_constraint tech.hold pair in
      let more = constraints_of_pairs tech pairs in
      let later = All-tail Property setup (hold ∷ more) all in
      All-cons (HaveBoth tech Property) pair pairs
      (All-head Property setup (hold ∷ more) all, All-head Property hold more later)
      (each_from_all Property pairs (All-tail Property hold more later))

  -- there are two for each pair
  pub two_for_each : (pairs : List PairDelay)
      → length (constraints_of_pairs tech pairs) ≡ length pairs + length pairs
  two_for_each [] = omega arith
  two_for_each (pair ∷ pairs) = omega (arith, two_for_each pairs)

  -- the two of the next pair are pushed after those of the pairs before
  pub pushed_next : (pairs : List PairDelay) (place : ℕ) (pair : PairDelay)
      → (setup hold : Constraint) (before between suffix : List Constraint) → place < length pairs
      → before ≡ constraints_of_pairs tech (take place pairs)
      → setup ≡ setup_constraint tech.setup (get_or pairs place pair)
      → hold ≡ hold_constraint tech.hold (get_or pairs place pair)
      → between ≡ before ++ setup ∷ [] → suffix ≡ between ++ hold ∷ []
      → suffix ≡ constraints_of_pairs tech (take (place + 1) pairs)
  pushed_next pairs place pair setup hold before between suffix within passed =
      λ is_setup is_hold one both.
      let next = get_or pairs place pair in
      let all = constraints_of_pairs tech (take place pairs) in
      both ∙ ap (λ list. list ++ hold ∷ []) one
      ∙ append_assoc before (setup ∷ []) (hold ∷ [])
      ∙ ap (λ list. list ++ setup ∷ hold ∷ []) passed
      ∙ ap (λ constraint. all ++ constraint ∷ hold ∷ []) is_setup
      ∙ ap (λ constraint. all ++ setup_constraint tech.setup next ∷ constraint ∷ []) is_hold
      ∙ flat_map_more (constraints_of_pair tech.setup tech.hold) [] (take place pairs) next
      ∙ ap (constraints_of_pairs tech) (sym (take_more pairs place pair within))
