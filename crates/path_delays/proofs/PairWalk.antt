-- The list of joined pairs as it grows, by the register that launches and then by the one that
-- captures.
use Rattle.path_delays.proofs.Vocabulary.{ℕ, ◌≡◌, ◌<◌, ◌≤◌, ◌+◌, ◌⊎◌, List, [], ◌∷◌, ◌++◌, length, get_or, Any, Option, Some, None, sym, ◌∙◌, subst, arith, inl, inr, append-nil, option_to_list, cases_lt, get_or_append_left, length_push, All-push, all_pairs_push, Any-push, Circuit, Tech, PairDelay, IsPath, IsPairDelay, ComesBefore, IsSmallPair, path_within, IsDelayBetween, IsJoinedBy, ListsPairsBefore, pair_limit, ArePairs}

-- what is listed stays so with one item more
any_before : (Property : PairDelay → Type 0) (pairs : List PairDelay) (pair : PairDelay)
    → Any Property pairs → Any Property (pairs ++ pair ∷ [])
any_before Property pairs pair any = grind (arith, length_push, get_or_append_left)

module _ (circuit : Circuit) (tech : Tech) where
  -- before the first pair comes none
  pub none_before : ListsPairsBefore circuit tech 0 0 []
  none_before = grind (arith)

  -- what comes before a later pair of the same register comes before this one or is between the two
  before_later : (launch capture from low high : ℕ) → ComesBefore launch capture from high
      → ComesBefore launch capture from low ⊎ ((launch ≡ from) × (low ≤ capture) × (capture < high))
  before_later launch capture from low high before = grind (arith, cases_lt)

  -- what comes before a pair comes before a later one
  still_before : (launch capture from low high : ℕ) → low ≤ high
      → ComesBefore launch capture from low → ComesBefore launch capture from high
  still_before launch capture from low high above before = grind arith

  -- pairs that aren't joined leave the list as it is
  pub skip_pairs : (from low high : ℕ) (pairs : List PairDelay) → low ≤ high
      → ((to : ℕ) (path : List ℕ) → low ≤ to → to < high → IsPath circuit from to path → ⊥)
      → ListsPairsBefore circuit tech from low pairs → ListsPairsBefore circuit tech from high pairs
  skip_pairs from low high pairs above apart lists = record {
    ordered = lists.ordered;
    before = λ k d within. still_before (get_or pairs k d).from
        (get_or pairs k d).to from low high above (lists.before k d within);
    delays = lists.delays;
    small = lists.small;
    all = λ launch capture path before is_path.
        elim (before_later launch capture from low high before) [
          | inl earlier ↦ lists.all launch capture path earlier is_path
          | inr here ↦ absurd (apart capture path here.1 here.2 (rw here.0 at is_path))
        ];
  }

  -- a joined pair comes last
  add_pair : (from to : ℕ) (pairs : List PairDelay) (pair : PairDelay)
      → IsDelayBetween circuit tech from to pair → ListsPairsBefore circuit tech from to pairs
      → ListsPairsBefore circuit tech from (to + 1) (pairs ++ pair ∷ [])
  add_pair from to pairs pair joined lists = record {
    ordered = all_pairs_push (λ first second. ComesBefore first.from first.to second.from second.to)
        pairs pair lists.ordered
        (λ k d within. rw (joined.from_is, joined.to_is) (lists.before k d within));
    before = All-push (λ p. ComesBefore p.from p.to from (to + 1)) pairs pair
        (λ k d within. still_before (get_or pairs k d).from (get_or pairs k d).to from to (to + 1)
        (omega arith) (lists.before k d within))
        (inr (joined.from_is, omega (arith, joined.to_is)));
    delays = All-push (IsPairDelay circuit tech) pairs pair lists.delays joined.delays;
    small = All-push IsSmallPair pairs pair lists.small joined.small;
    all = λ launch capture path before is_path.
        elim (before_later launch capture from to (to + 1) before) [
          | inl earlier ↦ any_before (λ p. (p.from ≡ launch) × (p.to ≡ capture)) pairs pair
              (lists.all launch capture path earlier is_path)
          | inr here ↦ Any-push (λ p. (p.from ≡ launch) × (p.to ≡ capture)) pairs pair
              (joined.from_is ∙ sym here.0, omega (arith, joined.to_is, here.1, here.2))
        ];
  }

  -- so the list goes on with the next pair, joined or not
  pub pair_next : (from to : ℕ) (pairs later : List PairDelay) (joined : Option PairDelay)
      → IsJoinedBy circuit tech from to joined → later ≡ pairs ++ option_to_list joined
      → ListsPairsBefore circuit tech from to pairs
      → ListsPairsBefore circuit tech from (to + 1) later
  pair_next from to pairs later None apart is lists =
      subst (ListsPairsBefore circuit tech from (to + 1)) (sym (is ∙ append-nil pairs))
      (skip_pairs from to (to + 1) pairs (omega arith) (λ capture path low high is_path.
      let same : capture ≡ to = omega arith in apart path (rw same at is_path)) lists)
  pair_next from to pairs later (Some pair) joined is lists =
      subst (ListsPairsBefore circuit tech from (to + 1)) (sym is)
      (add_pair from to pairs pair joined lists)

  -- where no later register is joined, the next one launches
  pub register_next : (from to : ℕ) (pairs : List PairDelay)
      → ((capture : ℕ) (path : List ℕ) → to ≤ capture → IsPath circuit from capture path → ⊥)
      → ListsPairsBefore circuit tech from to pairs
      → ListsPairsBefore circuit tech (from + 1) 0 pairs
  register_next from to pairs apart lists = record {
    ordered = lists.ordered;
    before = λ k d within. let earlier = lists.before k d within in inl (grind arith);
    delays = lists.delays;
    small = lists.small;
    all = λ launch capture path before is_path. elim (cases_lt launch from) [
      | inl lower ↦ lists.all launch capture path (inl lower) is_path
      | inr last ↦
          let same : launch ≡ from = grind arith in
          elim (cases_lt capture to) [
            | inl earlier ↦ lists.all launch capture path (inr (same, earlier)) is_path
            | inr later ↦ absurd (apart capture path later (rw same at is_path))
          ]
    ];
  }

  -- past the last register, all are listed
  pub all_listed : (from : ℕ) (pairs : List PairDelay) → length circuit.registers ≤ from
      → length pairs ≤ pair_limit → ListsPairsBefore circuit tech from 0 pairs
      → ArePairs circuit tech pairs
  all_listed from pairs past few lists = grind (arith, path_within)
