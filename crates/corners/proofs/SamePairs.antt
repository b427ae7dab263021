-- Two lists of the joined pairs of one circuit name the same pairs in the same order, whatever the
-- delays are.
use Rattle.corners.proofs.Vocabulary.{◌≡◌, ◌<◌, ◌≤◌, ◌∙◌, ℕ, zero, suc, pos, List, length, get_or, inl, inr, sym, ap, arith, cases_lt, get_or_default, Circuit, Tech, PairDelay}
use Rattle.cts_model.specs.Vocabulary.{ComesBefore, AreOrdered, ListsPairs}

-- what is read past the end of a list
abbrev pub no_pair : PairDelay
no_pair = record { from = 0; to = 0; least = pos 0; greatest = pos 0 }

-- the pair at a place
abbrev pub pair_at : List PairDelay → ℕ → PairDelay
pair_at pairs place = get_or pairs place no_pair

-- the pairs at the two places join the same registers
pub record IsSamePair (pairs others : List PairDelay) (place other : ℕ) : Type 0 where
  pub within : place < length pairs
  pub inside : other < length others
  pub from : (pair_at pairs place).from ≡ (pair_at others other).from
  pub to : (pair_at pairs place).to ≡ (pair_at others other).to

-- each pair of the one list stands in the other
abbrev pub AreAmong : (pairs others : List PairDelay) → Type 0
AreAmong pairs others = (place : ℕ) → place < length pairs
    → (other : ℕ) × IsSamePair pairs others place other

-- of two pairs in order the places are
in_order : (others : List PairDelay) → AreOrdered others → (first second : ℕ)
    → first < length others → second < length others
    → ComesBefore (pair_at others first).from (pair_at others first).to
    (pair_at others second).from (pair_at others second).to → first < second
in_order others ordered first second one other before = elim (cases_lt first second) [
  | inl low ↦ low
  | inr high ↦ elim (cases_lt second first) [
    | inl after ↦ absurd (circle (ordered second first no_pair after one) before)
    | inr level ↦
        let same : first ≡ second = omega arith in
        let itself = rw same at before in
        absurd (circle itself itself)
  ]
]
  where
    circle : {from to later_from later_to : ℕ} → ComesBefore from to later_from later_to
        → ComesBefore later_from later_to from to → ⊥
    circle before after = grind arith

-- no pair stands earlier in the other list
no_earlier : (pairs others : List PairDelay) → AreOrdered pairs → AreOrdered others
    → AreAmong pairs others → (place other : ℕ) → IsSamePair pairs others place other
    → place ≤ other
no_earlier pairs others ordered in_turn among zero other same = omega arith
no_earlier pairs others ordered in_turn among (suc place) other same =
    let (last, known) = among place (omega (arith, same.within)) in
    let before = ordered place (suc place) no_pair (omega arith) same.within in
    let earlier : last < other = in_order others in_turn last other known.inside same.inside
    (rw (← known.from, ← known.to, ← same.from, ← same.to) before) in
    omega (arith, earlier, no_earlier pairs others ordered in_turn among place last known)

-- seen from the other list it is the same
turned : (pairs others : List PairDelay) (place other : ℕ) → IsSamePair pairs others place other
    → IsSamePair others pairs other place
turned pairs others place other same = record {
  within = same.inside;
  inside = same.within;
  from = sym same.from;
  to = sym same.to;
}

-- the two lists join the same registers at each place
pub record AreSamePairs (pairs others : List PairDelay) : Type 0 where
  pub lengths : length pairs ≡ length others
  pub from : (place : ℕ) → place < length pairs
      → (pair_at pairs place).from ≡ (pair_at others place).from
  pub to : (place : ℕ) → place < length pairs
      → (pair_at pairs place).to ≡ (pair_at others place).to

module _ (pairs others : List PairDelay) (ordered : AreOrdered pairs) (in_turn : AreOrdered others)
    (among : AreAmong pairs others) (back : AreAmong others pairs) where
  -- so each pair stands at the same place
  at_its_place : (place : ℕ) → place < length pairs → IsSamePair pairs others place place
  at_its_place place within =
      let (other, same) = among place within in
      let one = no_earlier pairs others ordered in_turn among place other same in
      let two = no_earlier others pairs in_turn ordered back other place
      (turned pairs others place other same) in
      let level : other ≡ place = omega (arith, one, two) in
      rw level at same

  -- and neither list is shorter
  no_longer : length pairs ≤ length others
  no_longer = elim (cases_lt (length others) (length pairs)) [
    | inl longer ↦
        let same = at_its_place (length others) longer in
        omega (arith, same.inside)
    | inr long ↦ long
  ]

-- lists in order that have one another's pairs are the same
pub same_pairs : (pairs others : List PairDelay) → AreOrdered pairs → AreOrdered others
    → AreAmong pairs others → AreAmong others pairs → AreSamePairs pairs others
same_pairs pairs others ordered in_turn among back = record {
  lengths = omega (
    arith,
    no_longer pairs others ordered in_turn among back,
    no_longer others pairs in_turn ordered back among,
  );
  from = λ place within. (at_its_place pairs others ordered in_turn among back place within).from;
  to = λ place within. (at_its_place pairs others ordered in_turn among back place within).to;
}

module _ (circuit : Circuit) (tech other_tech : Tech) (pairs others : List PairDelay)
    (lists : ListsPairs circuit tech pairs) (list_others : ListsPairs circuit other_tech others)
  where
    -- a path that joins a listed pair is one by any table
    pub among_others : AreAmong pairs others
    among_others place within =
        let its = lists.delays place no_pair within in
        let (path, is_path, delay) = its.greatest_shown in
        let (other, pair, inside, there, (from_is, to_is)) = list_others.all _ _ path is_path in
        let plain = get_or_default others other no_pair pair inside ∙ there in (
          other,
          record {
            within = within;
            inside = inside;
            from = sym (ap (λ one. one.from) plain ∙ from_is);
            to = sym (ap (λ one. one.to) plain ∙ to_is);
          },
        )

-- the pairs of one circuit by two tables are the same
pub same_for_tables : (circuit : Circuit) (tech other_tech : Tech) (pairs others : List PairDelay)
    → ListsPairs circuit tech pairs → ListsPairs circuit other_tech others
    → AreSamePairs pairs others
same_for_tables circuit tech other_tech pairs others lists list_others =
    search (arith, same_pairs, among_others)
