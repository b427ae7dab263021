-- The shape of a tree, by its sinks, its merges and its source.
use Rattle.cert_check.proofs.Vocabulary.{◌≡◌, ◌<◌, ◌≤◌, ◌+◌, ◌-◌, ◌*◌, ◌↔◌, ℕ, Bool, IsTrue, List, length, take, get_or, inl, inr, refl, sym, subst, arith, IfOk, IfSome, Result, Ok, Err, slice_get, cases_lt, slice_get-get_or, slice_get_past, slice_get_within, Sink, Uv, Merge, Embedding, HasShape, rotated, AtEach, IsMerge, IsTopology, source_of, JoinsAt, StandsAt, TreeShape, Stop, At, NoMemory, FailsFirst, Judges, JudgesOnce}
use Rattle.cert_check.proofs.FirstPlaces.{stops_by}
use Rattle.cert_check.proofs.MarkLemmas.{if_some, some_if}

-- a test of the node of a sink's number against the sink's place tells whether the sink stands
pub stands_by : (sinks : List Sink) (tree : Embedding) (register : ℕ) (d : Sink) (test : Bool)
    → register < length sinks
    → IsTrue test ↔ (rotated (tree.place register) ≡ (get_or sinks register d).at)
    → IsTrue test ↔ StandsAt sinks tree register
stands_by sinks tree register d test within = search (arith, slice_get-get_or)

module _ (sinks : List Sink) (merges : List Merge) (source : Uv) (tree : Embedding)
    (all : length merges + 1 ≡ length sinks) where
  -- where no sink has that number, nothing is asked
  no_sink : (node : ℕ) → length sinks ≤ node → StandsAt sinks tree node
  no_sink node past = subst (λ found. IfSome found (λ sink. rotated (tree.place node) ≡ sink.at))
      (sym (slice_get_past sinks node past)) tt

  -- a sink
  of_sink : (node : ℕ) → node < length sinks → StandsAt sinks tree node
      → HasShape sinks merges source tree node
  of_sink node low stands = search arith

  -- a merge
  of_merge : (place : ℕ) → place < length merges → JoinsAt (length sinks) merges place
      → HasShape sinks merges source tree (length sinks + place)
  of_merge place low joins = search (arith, no_sink, some_if)

  -- the source
  of_source : rotated (tree.place (source_of (length sinks))) ≡ source
      → HasShape sinks merges source tree (source_of (length sinks))
  of_source stands = search (arith, no_sink, slice_get_within)

  -- all sinks, and merges before a place
  before_merge : (count : ℕ) → count ≤ length merges → AtEach (length sinks) (StandsAt sinks tree)
      → AtEach count (JoinsAt (length sinks) merges)
      → AtEach (length sinks + count) (HasShape sinks merges source tree)
  before_merge count some stand join node low = elim (cases_lt node (length sinks)) [
    | inl below ↦ of_sink node below (stand node below)
    | inr past ↦
        let is : length sinks + (node - length sinks) ≡ node = omega arith in
        subst (HasShape sinks merges source tree) is
        (of_merge (node - length sinks) (omega arith) (join (node - length sinks) (omega arith)))
  ]

  -- the first sink that is moved is the first node
  pub moved : (register : ℕ) → FailsFirst (length sinks) (StandsAt sinks tree) register
      → FailsFirst (2 * length sinks) (HasShape sinks merges source tree) register
  moved register first = search (arith, of_sink)

  module _ (stand : AtEach (length sinks) (StandsAt sinks tree)) where
    -- and else the first merge that doesn't join what it may
    pub unjoined : (place : ℕ) → FailsFirst (length merges) (JoinsAt (length sinks) merges) place
        → FailsFirst (2 * length sinks) (HasShape sinks merges source tree) (length sinks + place)
    unjoined place first = record {
      within = omega (arith, first.within, all);
      fails = λ shape. first.fails (if_some (slice_get merges place)
          (IsMerge (length sinks) (take place merges))
          (λ merge here. shape.joins place merge refl here));
      before = before_merge place (omega (arith, first.within)) stand first.before;
    }

    module _ (join : AtEach (length merges) (JoinsAt (length sinks) merges)) where
      before_source : AtEach (source_of (length sinks)) (HasShape sinks merges source tree)
      before_source node low = before_merge (length merges) (omega arith) stand join node
          (omega (arith, all, low))

      -- and else the source
      pub source_moved : (rotated (tree.place (source_of (length sinks))) ≡ source → ⊥)
          → FailsFirst (2 * length sinks) (HasShape sinks merges source tree)
          (source_of (length sinks))
      source_moved fails = search (arith, before_source)

      pub all_shaped : rotated (tree.place (source_of (length sinks))) ≡ source
          → AtEach (2 * length sinks) (HasShape sinks merges source tree)
      all_shaped stands node low = search (arith, cases_lt, before_source, of_source)

  -- where each merge joins what it may, the merges are a topology
  pub shape_topology : AtEach (2 * length sinks) (HasShape sinks merges source tree)
      → IsTopology (length sinks) merges
  shape_topology shape = record {
    all = sym all;
    each = λ place merge here.
        let within = slice_get_within merges place merge here in
        (shape (length sinks + place) (omega (arith, all))).joins place merge refl here;
  }

  module _ (stand : AtEach (length sinks) (StandsAt sinks tree)) where
    -- what stops the judgement of the merges stops that of the nodes
    pub merges_stop : (stop : Stop)
        → Judges (length merges) (JoinsAt (length sinks) merges)
        (λ place. TreeShape (length sinks + place)) {T = Unit {0}} (Err stop)
        → Judges (2 * length sinks) (HasShape sinks merges source tree) TreeShape {T = Unit {0}}
        (Err stop)
    merges_stop stop =
        stops_by stop (λ place first. (length sinks + place, unjoined stand place first, refl))

    -- and last the source
    pub source_decides : {T : Type 0} (result : Result T Stop)
        → AtEach (length merges) (JoinsAt (length sinks) merges)
        → JudgesOnce (rotated (tree.place (source_of (length sinks))) ≡ source)
        (TreeShape (source_of (length sinks))) result
        → Judges (2 * length sinks) (HasShape sinks merges source tree) TreeShape result
    source_decides (Ok done) join stands = all_shaped stand join stands
    source_decides (Err (At given)) join (fails, is) =
        (source_of (length sinks), source_moved stand join fails, is)
    source_decides (Err NoMemory) join none = tt

    pub source_topology : {T : Type 0} (result : Result T Stop)
        → AtEach (length merges) (JoinsAt (length sinks) merges)
        → JudgesOnce (rotated (tree.place (source_of (length sinks))) ≡ source)
        (TreeShape (source_of (length sinks))) result
        → IfOk result (λ done. IsTopology (length sinks) merges)
    source_topology (Ok done) join stands = shape_topology (all_shaped stand join stands)
    source_topology (Err stop) join stands = tt
