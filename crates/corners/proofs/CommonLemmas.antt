-- The combined list of a circuit's constraints by the table of each corner.
use Rattle.corners.proofs.Vocabulary.{◌≡◌, ◌<◌, ◌≤◌, ◌+◌, ◌∙◌, ℕ, ℤ, List, [], ◌∷◌, ◌++◌, length, get_or, Option, Some, None, inl, inr, refl, sym, ap, subst, arith, All, slice_get, IsSomeAnd, cases_lt, ints, get_or_append_left, get_or_default, length-append, slice_get_within, slice_get-get_or, same_Some, get_or-append_seam, Circuit, Constraint, Tech, IsConstraintOf, Satisfies, Combined, MeetsEach, AreCommonConstraints, AreConstraintsBy, IsCombined, IsConstraintIn, IsOfCorner, AreAlike, AreCorners, AreParallel, constraint_at, list_of, weight_at}
use Rattle.corners.proofs.OneWeight.{one_weight}
use Rattle.corners.proofs.ParallelLemmas.{parallel_by_tables}
use Rattle.corners.proofs.SatisfiedLemmas.{satisfied_where_each}
use Rattle.corners.proofs.SmallLemmas.{small_of_each}

-- the constraints are those by the corner's table
pub record IsListOfCorner (circuit : Circuit) (techs : List Tech) (corner : ℕ)
    (constraints : List Constraint) : Type 0 where
  pub tech : Tech
  pub its : slice_get techs corner ≡ Some tech
  pub are : AreConstraintsBy circuit tech constraints

-- the lists of so many corners are combined
pub record AreCombinedBefore (circuit : Circuit) (techs : List Tech) (before : ℕ)
    (combined : Combined) : Type 0 where
  pub lists : List (List Constraint)
  pub count : length lists ≡ before
  pub each : (corner : ℕ) → corner < before
      → IsListOfCorner circuit techs corner (list_of lists corner)
  pub is : IsCombined lists combined

-- alike both ways
alike_from : (one other : Constraint) → AreAlike one other → AreAlike other one
alike_from one other alike =
    record { setup = sym alike.setup; tail = sym alike.tail; head = sym alike.head }

-- and through a third
alike_through : (one other third : Constraint) → AreAlike one other → AreAlike one third
    → AreAlike other third
alike_through one other third first second = search arith

-- the table that is read at a corner's place is the corner's
pub table_at : (techs : List Tech) (corner : ℕ) (tech : Tech) → corner < length techs
    → tech ≡ get_or techs corner tech → slice_get techs corner ≡ Some tech
table_at techs corner tech within is =
    slice_get-get_or techs corner tech within ∙ ap Some (sym is)

module _ (circuit : Circuit) (techs : List Tech) where
  -- the list of the first corner
  pub combined_first : (tech : Tech) (list : List Constraint) (combined : Combined)
      → slice_get techs 0 ≡ Some tech → AreConstraintsBy circuit tech list
      → IsCombined (list ∷ []) combined → AreCombinedBefore circuit techs 1 combined
  combined_first tech list combined its are is = record {
    lists = list ∷ [];
    count = omega arith;
    each = λ corner within.
        let first : corner ≡ 0 = omega arith in
        rw first (record { tech = tech; its = its; are = are });
    is = is;
  }

  module _ (corner : ℕ) (old : Combined) (before : AreCombinedBefore circuit techs corner old)
      (tech : Tech) (list : List Constraint) (its : slice_get techs corner ≡ Some tech)
      (are : AreConstraintsBy circuit tech list) where
    -- the list of a further corner is as long
    pub same_length : 1 ≤ corner → length old.constraints ≡ length list
    same_length some =
        let first = before.each 0 (omega arith) in
        sym (before.is.lengths 0 [] (omega (arith, before.count)))
        ∙ (parallel_by_tables circuit first.tech tech _ list first.are are).lengths

    -- with it the lists of one corner more are combined
    pub combined_more : (new : Combined)
        → ((lists : List (List Constraint)) → length lists ≡ corner → IsCombined lists old
        → IsCombined (lists ++ list ∷ []) new) → AreCombinedBefore circuit techs (corner + 1) new
    combined_more new included = record {
      lists = before.lists ++ list ∷ [];
      count = simp length-append (omega (arith, before.count));
      each = λ other within. elim (cases_lt other corner) [
        | inl earlier ↦
            subst (IsListOfCorner circuit techs other)
            (sym (get_or_append_left before.lists (list ∷ []) [] other
            (omega (arith, before.count, earlier)))) (before.each other earlier)
        | inr later ↦
            let last : other ≡ corner = omega arith in
            let here : list_of (before.lists ++ list ∷ []) corner ≡ list =
            rw (← before.count) (get_or-append_seam before.lists list [] []) in
            rw (last, here) (record { tech = tech; its = its; are = are })
      ];
      is = included before.lists before.count before.is;
    }

  module _ (combined : Combined) (all : AreCombinedBefore circuit techs (length techs) combined)
      (some : 1 ≤ length techs) (few : length techs ≤ 16) where
    -- any two of the lists are parallel
    parallel : (one other : ℕ) → one < length techs → other < length techs
        → AreParallel (list_of all.lists one) (list_of all.lists other)
    parallel one other within inside =
        let first = all.each one within in
        let second = all.each other inside in
        parallel_by_tables circuit first.tech second.tech _ _ first.are second.are

    -- so they are lists of corners
    are_corners : AreCorners all.lists
    are_corners = record {
      some = omega (arith, some, all.count);
      few = omega (arith, few, all.count);
      parallel = λ one any within other default inside.
          rw (
            get_or_default all.lists one any [] within,
            get_or_default all.lists other default [] inside,
          )
          (parallel one other (omega (arith, within, all.count))
          (omega (arith, inside, all.count)));
    }

    -- a constraint by a corner's table, with the weight of the alike one in its list
    weight_in_list : (place corner other : ℕ) (constraint rival : Constraint)
        → corner < length techs → place < length combined.constraints
        → constraint ≡ constraint_at (list_of all.lists corner) place
        → AreAlike constraint rival → IsConstraintIn circuit techs other rival
        → (other < length techs) × (rival.weight ≡ weight_at all.lists other place)
    weight_in_list place corner other constraint rival within inside is alike in_other =
        at (slice_get techs other) (λ tech its. its) in_other
      where
        at : (found : Option Tech)
            → ((tech : Tech) → found ≡ Some tech → slice_get techs other ≡ Some tech)
            → IsSomeAnd found (λ tech. IsConstraintOf circuit tech rival)
            → (other < length techs) × (rival.weight ≡ weight_at all.lists other place)
        at None found its = absurd its
        at (Some tech) found its =
            let here = slice_get_within techs other tech (found tech refl) in
            let list = all.each other here in
            let same : list.tech ≡ tech = same_Some _ _ (sym list.its ∙ found tech refl) in
            let long = all.is.lengths corner [] (omega (arith, within, all.count)) in
            let theirs = constraint_at (list_of all.lists other) place in
            let beside = (parallel corner other within here).alike place
            (omega (arith, inside, long)) in
            let also = all.is.lengths other [] (omega (arith, here, all.count)) in (
              here,
              one_weight circuit tech rival theirs
                  (alike_through constraint rival theirs alike (rw is beside))
                  its (rw (← same) (list.are.each place _ (omega (arith, inside, also)))),
            )

    -- the constraint at each place is of the corner named
    of_corner : (place : ℕ) → place < length combined.constraints
        → IsOfCorner circuit techs (get_or combined.corner place 0)
        (constraint_at combined.constraints place)
    of_corner place inside =
        let is = all.is.each place inside in
        let corner = get_or combined.corner place 0 in
        let constraint = constraint_at combined.constraints place in
        let within : corner < length techs = omega (arith, is.named.in_range, all.count) in
        let list = all.each corner within in
        let long = all.is.lengths corner [] is.named.in_range in
        let weight : constraint.weight ≡ weight_at all.lists corner place =
        ap (λ one. one.weight) is.constraint in
        record {
          here = rw list.its (rw is.constraint (list.are.each place _
              (omega (arith, inside, long))));
          greatest = λ other rival alike in_other.
              let (among, its) = weight_in_list place corner other constraint rival within inside
              is.constraint alike in_other in
              omega (
                arith,
                ints,
                weight,
                its,
                is.named.greatest other (omega (arith, among, all.count)),
              );
          first = λ other rival earlier alike in_other.
              let (among, its) = weight_in_list place corner other constraint rival within inside
              is.constraint alike in_other in
              omega (arith, ints, weight, its, is.named.first other earlier);
        }

    -- whoever satisfies each list meets the period in each corner
    met_each : (scale : ℕ) (period : ℤ) (arrival : ℕ → ℤ)
        → All (λ list. Satisfies list scale period arrival) all.lists
        → MeetsEach circuit techs scale period arrival
    met_each scale period arrival satisfied = λ corner any within.
        let list = all.each corner within in
        let tech : list.tech ≡ get_or techs corner any =
        same_Some _ _ (sym list.its ∙ slice_get-get_or techs corner any within) in
        rw (← tech) ((list.are.meets scale period arrival).0
        (satisfied corner [] (omega (arith, within, all.count))))

    -- and the other way round
    satisfied_each : (scale : ℕ) (period : ℤ) (arrival : ℕ → ℤ)
        → MeetsEach circuit techs scale period arrival
        → All (λ list. Satisfies list scale period arrival) all.lists
    satisfied_each scale period arrival met = λ corner any inside.
        let within : corner < length techs = omega (arith, inside, all.count) in
        let list = all.each corner within in
        let tech : list.tech ≡ get_or techs corner list.tech =
        same_Some _ _ (sym list.its ∙ slice_get-get_or techs corner list.tech within) in
        rw (get_or_default all.lists corner any [] inside)
        ((list.are.meets scale period arrival).1 (rw tech (met corner list.tech within)))

    -- so the combined list is what all corners ask
    pub common_of_all : AreCommonConstraints circuit techs combined
    common_of_all = record {
      of_corners = record { named = all.is.named; each = of_corner };
      meets = λ scale period arrival.
          let both = satisfied_where_each scale period arrival all.lists combined.constraints
          combined.corner are_corners all.is.lengths all.is.each in (
            λ satisfied. met_each scale period arrival (both.0 satisfied),
            λ met. both.1 (satisfied_each scale period arrival met),
          );
      small = small_of_each (length circuit.registers) all.lists combined.constraints
          combined.corner are_corners.some all.is.lengths all.is.each
          (λ corner any inside. rw (get_or_default all.lists corner any [] inside)
          (all.each corner (omega (arith, inside, all.count))).are.small);
    }
