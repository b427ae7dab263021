-- The sinks below the nodes of a topology, as merges come one after the other.
use Rattle.cts_model.proofs.Vocabulary.{◌≡◌, ℕ, zero, suc, ◌<◌, ◌≤◌, ◌+◌, List, [], ◌∷◌, ◌++◌, length, get_or, take, drop, map, Option, Some, None, inl, inr, refl, sym, ap, subst, ◌∙◌, arith, length-append, IsSomeAnd, All, Contains, slice_get, filter_map, range_with_len, cons_option, get_or-append, get_or-append_seam, take-append_seam, cases_lt, take-append-drop, take-append-le, length-take, length-take-le, take_more, get_or_past, All-nil, All-cons, All-append, All-contains, All-contains_itself, All-weaker, All-map, Contains-append_left, Contains-append_right, filter_map-append, slice_get_within, slice_get-get_or, slice_get_cases, slice_get_read, get_or_from_slice_get, Sink, Merge, IsMerge, numbers_at, sets_after, sets_of, numbers_below, sinks_below}
use Rattle.std.proofs.lemmas.List.FromFn.{length-range_with_len, get_or-range_with_len, length-map-range_with_len, get_or-map-range_with_len}

-- a list is what stands before a place, the item there, and the rest
split_at : (merges : List Merge) (place : ℕ) (merge : Merge) → slice_get merges place ≡ Some merge
    → merges ≡ (take place merges ++ merge ∷ []) ++ drop (place + 1) merges
split_at merges place merge here =
    let within = slice_get_within merges place merge here in
    sym (take-append-drop (place + 1) merges)
    ∙ ap (λ prefix. prefix ++ drop (place + 1) merges) (take_more merges place merge within
    ∙ ap (λ item. take place merges ++ item ∷ [])
    (get_or_from_slice_get merges place merge merge here))

-- a value of which something holds is there
pub some_and : {X : Type 0} (found : Option X) (Holds : X → Type 0) → IsSomeAnd found Holds
    → (value : X) × (found ≡ Some value) × Holds value
some_and None Holds holds = absurd holds
some_and (Some value) Holds holds = (value, refl, holds)

-- an item stays after one that may be there
after_option : {X : Type 0} (first : Option X) (rest : List X) (item : X)
    → Contains rest item → Contains (cons_option first rest) item
after_option None rest item contained = contained
after_option (Some other) rest item contained =
    Contains-append_right (other ∷ []) rest item contained

-- what is found for an item of a list is among all that is found
pub found_among : {X Y : Type 0} (pick : X → Option Y) (items : List X) (item : X) (value : Y)
    → Contains items item → pick item ≡ Some value → Contains (filter_map pick items) value
found_among pick [] item value contained picked = absurd (omega (arith, contained.1))
found_among pick (first ∷ items) item value (zero, within, same) picked =
    rw (ap pick same ∙ picked) (zero, omega arith, refl)
found_among pick (first ∷ items) item value (suc place, within, same) picked =
    after_option (pick first) (filter_map pick items) value
    (found_among pick items item value (place, omega arith, same) picked)

-- and all that is found is so for an item
pub found_from : {X Y : Type 0} (pick : X → Option Y) (items : List X) (value : Y)
    → Contains (filter_map pick items) value
    → (item : X) × Contains items item × (pick item ≡ Some value)
found_from pick [] value contained = absurd (omega (arith, contained.1))
found_from {X} {Y} pick (first ∷ items) value contained =
    at (pick first) refl (found_from pick items value) contained
  where
    Found : List X → Type 0
    Found list = (item : X) × Contains list item × (pick item ≡ Some value)

    further : Found items → Found (first ∷ items)
    further (item, contained, picked) =
        (item, Contains-append_right (first ∷ []) items item contained, picked)

    at : (o : Option Y) → pick first ≡ o → (Contains (filter_map pick items) value → Found items)
        → Contains (cons_option o (filter_map pick items)) value → Found (first ∷ items)
    at None none later contained = further (later contained)
    at (Some y) some later (zero, within, same) =
        (first, (zero, omega arith, refl), some ∙ ap Some same)
    at (Some y) some later (suc place, within, same) =
        further (later (place, omega arith, same))

-- the set that a merge makes
abbrev made_set : List (List ℕ) → Merge → List ℕ
made_set sets merge = numbers_at sets merge.first ++ numbers_at sets merge.second

-- each merge adds one set
pub length-sets_after : (sets : List (List ℕ)) (merges : List Merge)
    → length (sets_after sets merges) ≡ length sets + length merges
length-sets_after sets [] = omega arith
length-sets_after sets (merge ∷ merges) =
    omega (
      arith,
      length-sets_after (sets ++ made_set sets merge ∷ []) merges,
      length-append sets (made_set sets merge ∷ []),
    )

-- so there is one for each sink and each merge
pub length-sets_of : (sinks : ℕ) (merges : List Merge)
    → length (sets_of sinks merges) ≡ sinks + length merges
length-sets_of sinks merges =
    length-sets_after (map (λ sink. sink ∷ []) (range_with_len 0 sinks)) merges
    ∙ ap (λ n. n + length merges) (length-map-range_with_len (λ sink. sink ∷ []) 0 sinks)

-- merges in two parts
pub sets_after-append : (sets : List (List ℕ)) (merges more : List Merge)
    → sets_after sets (merges ++ more) ≡ sets_after (sets_after sets merges) more
sets_after-append sets [] more = refl
sets_after-append sets (merge ∷ merges) more =
    sets_after-append (sets ++ made_set sets merge ∷ []) merges more

-- the last merge adds its set after the others
pub sets_after-push : (sets : List (List ℕ)) (merges : List Merge) (merge : Merge)
    → sets_after sets (merges ++ merge ∷ []) ≡ sets_after sets merges
    ++ (numbers_at (sets_after sets merges) merge.first
    ++ numbers_at (sets_after sets merges) merge.second) ∷ []
sets_after-push sets merges merge = sets_after-append sets merges (merge ∷ [])

-- a set stays as it is
numbers_at-sets_after : (sets : List (List ℕ)) (merges : List Merge) (node : ℕ)
    → node < length sets → numbers_at (sets_after sets merges) node ≡ numbers_at sets node
numbers_at-sets_after sets [] node within = refl
numbers_at-sets_after sets (merge ∷ merges) node within =
    let more = made_set sets merge ∷ [] in
    numbers_at-sets_after (sets ++ more) merges node (omega (arith, length-append sets more))
    ∙ get_or-append sets more [] node within

-- the sinks below a node stay the same when more merges come
pub numbers_below-append : (sinks : ℕ) (merges more : List Merge) (node : ℕ)
    → node < sinks + length merges
    → numbers_below sinks (merges ++ more) node ≡ numbers_below sinks merges node
numbers_below-append sinks merges more node made =
    let first = map (λ sink. sink ∷ []) (range_with_len 0 sinks) in
    ap (λ sets. numbers_at sets node) (sets_after-append first merges more)
    ∙ numbers_at-sets_after (sets_of sinks merges) more node
    (omega (arith, length-sets_of sinks merges))

-- so they are known from the merges before a place
pub numbers_below-take : (sinks : ℕ) (merges : List Merge) (place node : ℕ)
    → node < sinks + length (take place merges)
    → numbers_below sinks (take place merges) node ≡ numbers_below sinks merges node
numbers_below-take sinks merges place node made =
    sym (numbers_below-append sinks (take place merges) (drop place merges) node made)
    ∙ ap (λ all. numbers_below sinks all node) (take-append-drop place merges)

-- below a sink is that sink alone
pub numbers_below-sink : (sinks : ℕ) (merges : List Merge) (register : ℕ) → register < sinks
    → numbers_below sinks merges register ≡ register ∷ []
numbers_below-sink sinks merges register within =
    numbers_below-append sinks [] merges register (omega arith)
    ∙ get_or-map-range_with_len (λ sink. sink ∷ []) 0 sinks register register [] within
    (omega arith)

-- below the node that the last merge makes are the sinks of the two that it joins
pub numbers_below-push : (sinks : ℕ) (merges : List Merge) (merge : Merge)
    → numbers_below sinks (merges ++ merge ∷ []) (sinks + length merges)
    ≡ numbers_below sinks merges merge.first ++ numbers_below sinks merges merge.second
numbers_below-push sinks merges merge =
    let sets = sets_of sinks merges in
    ap (λ all. numbers_at all (sinks + length merges))
    (sets_after-push (map (λ sink. sink ∷ []) (range_with_len 0 sinks)) merges merge)
    ∙ ap (λ node. numbers_at (sets ++ made_set sets merge ∷ []) node)
    (sym (length-sets_of sinks merges))
    ∙ get_or-append_seam sets (made_set sets merge) [] []

-- and so below the node that any merge makes
pub numbers_below-merge : (sinks : ℕ) (merges : List Merge) (place : ℕ) (merge : Merge)
    → slice_get merges place ≡ Some merge → IsMerge sinks (take place merges) merge
    → numbers_below sinks merges (sinks + place)
    ≡ numbers_below sinks merges merge.first ++ numbers_below sinks merges merge.second
numbers_below-merge sinks merges place merge here joins =
    let within : place < length merges = slice_get_within merges place merge here in
    let prefix : length (take place merges) ≡ place = length-take-le place merges (omega arith) in
    let earlier = take place merges in
    let rest = drop (place + 1) merges in
    ap (λ all. numbers_below sinks all (sinks + place)) (split_at merges place merge here)
    ∙ numbers_below-append sinks (earlier ++ merge ∷ []) rest (sinks + place)
    (omega (arith, length-append earlier (merge ∷ [])))
    ∙ ap (λ n. numbers_below sinks (earlier ++ merge ∷ []) (sinks + n)) (sym prefix)
    ∙ numbers_below-push sinks earlier merge
    ∙ ap (λ numbers. numbers ++ numbers_below sinks earlier merge.second)
    (numbers_below-take sinks merges place merge.first joins.first.made)
    ∙ ap (λ numbers. numbers_below sinks merges merge.first ++ numbers)
    (numbers_below-take sinks merges place merge.second joins.second.made)

-- all numbers of all sets are below the bound
abbrev AreBelow : ℕ → List (List ℕ) → Type 0
AreBelow bound sets = All (All (λ number. number < bound)) sets

-- of a node, also of one that isn't made
numbers_at-below : (bound : ℕ) (sets : List (List ℕ)) (node : ℕ) → AreBelow bound sets
    → All (λ number. number < bound) (numbers_at sets node)
numbers_at-below bound sets node below = elim (cases_lt node (length sets)) [
  | inl within ↦ below node [] within
  | inr past ↦ subst (All (λ number. number < bound)) (sym (get_or_past sets node [] past))
      (All-nil (λ number. number < bound))
]

-- merges keep the numbers below the bound
sets_after-below : (bound : ℕ) (sets : List (List ℕ)) (merges : List Merge)
    → AreBelow bound sets → AreBelow bound (sets_after sets merges)
sets_after-below bound sets [] below = below
sets_after-below bound sets (merge ∷ merges) below =
    let IsLow = λ (number : ℕ). number < bound in
    sets_after-below bound (sets ++ made_set sets merge ∷ []) merges
    (All-append (All IsLow) sets (made_set sets merge ∷ []) below
    (All-cons (All IsLow) (made_set sets merge) []
    (All-append IsLow (numbers_at sets merge.first) (numbers_at sets merge.second)
    (numbers_at-below bound sets merge.first below)
    (numbers_at-below bound sets merge.second below))
    (All-nil (All IsLow))))

-- the first sets hold the sinks' own numbers
sets_first-below : (sinks : ℕ)
    → AreBelow sinks (map (λ sink. sink ∷ []) (range_with_len 0 sinks))
sets_first-below sinks = All-map (All (λ number. number < sinks)) (λ sink. sink ∷ [])
    (range_with_len 0 sinks) (λ k default within.
    let IsLow = λ (number : ℕ). number < sinks in
    All-cons IsLow (get_or (range_with_len 0 sinks) k default) []
    (omega (arith, length-range_with_len 0 sinks, get_or-range_with_len 0 sinks k default))
    (All-nil IsLow))

-- what is below a node are numbers of sinks
pub numbers_within : (sinks : ℕ) (merges : List Merge) (node : ℕ)
    → All (λ number. number < sinks) (numbers_below sinks merges node)
numbers_within sinks merges node =
    let first = map (λ sink. sink ∷ []) (range_with_len 0 sinks) in
    numbers_at-below sinks (sets_of sinks merges) node
    (sets_after-below sinks first merges (sets_first-below sinks))

-- and so is each number among them
pub number_within : (sinks : ℕ) (merges : List Merge) (node number : ℕ)
    → Contains (numbers_below sinks merges node) number → number < sinks
number_within sinks merges node number below =
    All-contains (λ other. other < sinks) (numbers_below sinks merges node) number
    (numbers_within sinks merges node) below

-- below a sink is that sink alone
pub sinks_below-sink : (sinks : List Sink) (merges : List Merge) (register : ℕ) (sink : Sink)
    → slice_get sinks register ≡ Some sink → sinks_below sinks merges register ≡ sink ∷ []
sinks_below-sink sinks merges register sink here =
    ap (filter_map (slice_get sinks)) (numbers_below-sink (length sinks) merges register
    (slice_get_within sinks register sink here))
    ∙ ap (λ found. cons_option found []) here

-- the sinks below a node stay the same when more merges come
pub sinks_below-append : (sinks : List Sink) (merges more : List Merge) (node : ℕ)
    → node < length sinks + length merges
    → sinks_below sinks (merges ++ more) node ≡ sinks_below sinks merges node
sinks_below-append sinks merges more node made =
    ap (filter_map (slice_get sinks)) (numbers_below-append (length sinks) merges more node made)

-- below the node that the last merge makes are the sinks of the two that it joins
pub sinks_below-push : (sinks : List Sink) (merges : List Merge) (merge : Merge)
    → sinks_below sinks (merges ++ merge ∷ []) (length sinks + length merges)
    ≡ sinks_below sinks merges merge.first ++ sinks_below sinks merges merge.second
sinks_below-push sinks merges merge =
    ap (filter_map (slice_get sinks)) (numbers_below-push (length sinks) merges merge)
    ∙ filter_map-append (slice_get sinks) (numbers_below (length sinks) merges merge.first)
    (numbers_below (length sinks) merges merge.second)

-- and so below the node that any merge makes
pub sinks_below-merge : (sinks : List Sink) (merges : List Merge) (place : ℕ) (merge : Merge)
    → slice_get merges place ≡ Some merge → IsMerge (length sinks) (take place merges) merge
    → sinks_below sinks merges (length sinks + place)
    ≡ sinks_below sinks merges merge.first ++ sinks_below sinks merges merge.second
sinks_below-merge sinks merges place merge here joins =
    ap (filter_map (slice_get sinks))
    (numbers_below-merge (length sinks) merges place merge here joins)
    ∙ filter_map-append (slice_get sinks) (numbers_below (length sinks) merges merge.first)
    (numbers_below (length sinks) merges merge.second)

-- a sink whose number is below a node is below it
pub sink_below : (sinks : List Sink) (merges : List Merge) (node register : ℕ) (sink : Sink)
    → Contains (numbers_below (length sinks) merges node) register
    → slice_get sinks register ≡ Some sink → Contains (sinks_below sinks merges node) sink
sink_below sinks merges node register sink below here = found_among (slice_get sinks)
    (numbers_below (length sinks) merges node) register sink below here

-- and each sink below it has such a number
pub number_below : (sinks : List Sink) (merges : List Merge) (node : ℕ) (sink : Sink)
    → Contains (sinks_below sinks merges node) sink
    → (register : ℕ) × Contains (numbers_below (length sinks) merges node) register
    × (slice_get sinks register ≡ Some sink)
number_below sinks merges node sink below =
    found_from (slice_get sinks) (numbers_below (length sinks) merges node) sink below

-- so each sink below it is one of the sinks
pub sinks_below-among : (sinks : List Sink) (merges : List Merge) (node : ℕ)
    → All (Contains sinks) (sinks_below sinks merges node)
sinks_below-among sinks merges node =
    All-weaker (Contains (sinks_below sinks merges node)) (Contains sinks)
    (λ sink below. let (register, number, here) = number_below sinks merges node sink below in (
      register,
      slice_get_within sinks register sink here,
      get_or_from_slice_get sinks register sink sink here,
    ))
    (sinks_below sinks merges node) (All-contains_itself (sinks_below sinks merges node))

-- the merge at a place, and two zeros past the end
abbrev pub merge_at : List Merge → ℕ → Merge
merge_at merges place = get_or merges place (record { first = 0; second = 0 })

-- it is among the merges
pub merge_here : (merges : List Merge) (place : ℕ) → place < length merges
    → slice_get merges place ≡ Some (merge_at merges place)
merge_here merges place within = slice_get-get_or merges place (merge_at [] 0) within

-- each merge joins two live nodes
abbrev pub EachMerge : (sinks : ℕ) → List Merge → Type 0
EachMerge sinks merges = (place : ℕ) (merge : Merge) → slice_get merges place ≡ Some merge
    → IsMerge sinks (take place merges) merge

-- so it is when one more comes that does
pub EachMerge-push : (sinks : ℕ) (merges : List Merge) (last : Merge) → EachMerge sinks merges
    → IsMerge sinks merges last → EachMerge sinks (merges ++ last ∷ [])
EachMerge-push sinks merges last each joins place merge here =
    let more = last ∷ [] in
    let item = get_or_from_slice_get (merges ++ more) place merge merge here in
    let within = slice_get_within (merges ++ more) place merge here in
    elim (cases_lt place (length merges)) [
      | inl before ↦
          let old = slice_get_read merges (length merges) place merge refl before
          (sym item ∙ get_or-append merges more merge place before) in
          subst (λ earlier. IsMerge sinks earlier merge)
          (sym (take-append-le place merges more (omega arith))) (each place merge old)
      | inr suffix ↦
          let end : length merges ≡ place = omega (arith, length-append merges more) in
          let prefix = ap (λ n. take n (merges ++ more)) (sym end)
          ∙ take-append_seam merges more in
          let same = sym (get_or-append_seam merges last [] merge)
          ∙ ap (λ n. get_or (merges ++ more) n merge) end ∙ item in
          subst (λ earlier. IsMerge sinks earlier merge) (sym prefix)
          (subst (λ other. IsMerge sinks merges other) same joins)
    ]

module _ (sinks : ℕ) (merges : List Merge) (each : EachMerge sinks merges) where
  -- what a merge joins is made before it
  pub first_made : (place : ℕ) (merge : Merge) → slice_get merges place ≡ Some merge
      → merge.first < sinks + place
  first_made place merge here = omega (
    arith,
    (each place merge here).first.made,
    length-take place merges,
  )

  pub second_made : (place : ℕ) (merge : Merge) → slice_get merges place ≡ Some merge
      → merge.second < sinks + place
  second_made place merge here = omega (
    arith,
    (each place merge here).second.made,
    length-take place merges,
  )

  module _ (Holds : ℕ → Type 0) (of_sink : (register : ℕ) → register < sinks → Holds register)
      (of_merge : (place : ℕ) (merge : Merge) → slice_get merges place ≡ Some merge
      → Holds merge.first → Holds merge.second → Holds (sinks + place)) where
    -- what holds of the sinks, and of what a merge makes where it holds of the two that it joins,
    -- holds of the nodes that so many merges make
    of_some_made : (count : ℕ) → count ≤ length merges → (node : ℕ) → node < sinks + count
        → Holds node
    of_some_made zero some node made = of_sink node (omega arith)
    of_some_made (suc count) some node made = elim (cases_lt node (sinks + count)) [
      | inl earlier ↦ of_some_made count (omega arith) node earlier
      | inr later ↦
          let merge : Merge = merge_at merges count in
          let here = merge_here merges count (omega arith) in
          let last : sinks + count ≡ node = omega arith in
          subst Holds last (of_merge count merge here
          (of_some_made count (omega arith) merge.first (first_made count merge here))
          (of_some_made count (omega arith) merge.second (second_made count merge here)))
    ]

    -- so it holds of all that stand
    pub of_made : (node : ℕ) → node < sinks + length merges → Holds node
    of_made node made = of_some_made (length merges) (omega arith) node made

  -- below a node that stands is some number
  pub some_number : (node : ℕ) → node < sinks + length merges
      → (number : ℕ) × Contains (numbers_below sinks merges node) number
  some_number node made = of_made
      (λ node. (number : ℕ) × Contains (numbers_below sinks merges node) number)
      (λ register within. (
        register,
        subst (λ numbers. Contains numbers register)
            (sym (numbers_below-sink sinks merges register within)) (zero, omega arith, refl),
      ))
      (λ place merge here first second. (
        first.0,
        subst (λ numbers. Contains numbers first.0)
            (sym (numbers_below-merge sinks merges place merge here (each place merge here)))
            (Contains-append_left (numbers_below sinks merges merge.first)
            (numbers_below sinks merges merge.second) first.0 first.1),
      ))
      node made

-- and some sink
pub some_sink : (sinks : List Sink) (merges : List Merge) → EachMerge (length sinks) merges
    → (node : ℕ) → node < length sinks + length merges
    → (sink : Sink) × Contains (sinks_below sinks merges node) sink
some_sink sinks merges each node made =
    let (number, below) = some_number (length sinks) merges each node made in
    elim ((slice_get_cases sinks number).1) [
      | inl there ↦ (there.0, sink_below sinks merges node number there.0 below there.2)
      | inr past ↦ absurd
          (omega (arith, past.0, number_within (length sinks) merges node number below))
    ]
