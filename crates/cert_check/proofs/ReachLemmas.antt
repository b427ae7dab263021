-- What a report's tree gives to the judgement of its reaches, and what that comes to.
use Rattle.cert_check.proofs.Vocabulary.{◌≡◌, ◌↔◌, ℕ, ◌<◌, ◌≤◌, ◌+◌, ◌*◌, ◌^◌, ℤ, pos, ◌-ℤ◌, List, length, get_or, FitsSigned, of_z, Bool, IsTrue, Option, Some, None, inl, inr, refl, sym, subst, ◌∙◌, arith, IfSome, IsSomeAnd, slice_get, w128, ints, to_z-of_z, get_or_from_slice_get, slice_get-get_or, slice_get_within, Circuit, Point, Sink, Uv, Problem, Report, Merge, AreWiresDown, Embedding, embedding_of, total_length, total_wire, IsReachShown, IsSkewed, IsBelow, IsPointBelow, IsUvBelow, rotated, IsOfSize, IsWithinBounds, number_at, arrival_of, sinks_in, source_in, ShowsMerge, ShowsSource, IsTopology, IsParent, Joins, numbers_below, root_of, source_of, made_parent, some_and, IsLevel, IsMergeShown, IsReachOver, IsSourceShown, IsSmallSink}
use Rattle.std.specs.List.{All}
use Rattle.cts_model.specs.Vocabulary.{on_grid, sink_of}
use Rattle.cts_model.proofs.GridLemmas.{on_grid_below, scheduled_size}
use Rattle.cts_model.proofs.SkewLemmas.{length-sinks_of, sink_at}
use Rattle.cts_model.proofs.TotalLemmas.{total_within}
use Rattle.cert_check.proofs.DownLemmas.{one_wire}

-- ---- sizes

-- a point below a bound has rotated coordinates below a higher one
rotated_below : (point : Point) → IsPointBelow (10 ^ 26) point → IsUvBelow (10 ^ 31) (rotated point)
rotated_below point below = search (arith, ints)

-- a circuit has few registers
pub few_registers : (circuit : Circuit) → length circuit.registers ≤ 4097
few_registers circuit = grind (arith, circuit.valid.few_registers)

module _ (problem : Problem) (report : Report) (size : IsOfSize problem.circuit report)
    (bounds : IsWithinBounds problem.tech report) where
  same : length problem.places.registers ≡ length report.schedule.at
  same = omega (arith, problem.valid.registers, size.arrivals)

  -- there is a sink for each register
  pub sinks_count : length (sinks_in problem report) ≡ length problem.circuit.registers
  sinks_count = length-sinks_of report.period problem.tech problem.places.registers
      report.schedule.at same ∙ size.arrivals

  -- the source has small coordinates
  pub source_small : IsUvBelow (10 ^ 31) (source_in problem report)
  source_small = search (arith, rotated_below, on_grid_below)

  -- so has a register, and its offset is small
  small_sink : (place : Point) (arrival : ℤ) → IsPointBelow 1000000000000001 place
      → IsBelow (10 ^ 19) arrival → IsSmallSink (sink_of report.period problem.tech place arrival)
  small_sink place arrival near below =
      let long = scheduled_size problem.tech arrival (10 ^ 19)
      (omega (arith, ints, below.above, below.below)) in
      record {
        at = rotated_below (on_grid report.period problem.tech place)
            (on_grid_below report.period problem.tech bounds.timing.period place near);
        offset = record { above = omega (arith, ints, long); below = omega (arith, ints, long) };
      }

  pub small_sinks : All IsSmallSink (sinks_in problem report)
  small_sinks register default here =
      let origin : Point = record { x = pos 0; y = pos 0 } in
      let low : register < length report.schedule.at = omega (
        arith,
        here,
        sinks_count,
        size.arrivals,
      ) in
      let found = sink_at report.period problem.tech problem.places.registers report.schedule.at
      origin register same low in
      subst IsSmallSink (sym (get_or_from_slice_get (sinks_in problem report) register
      (sink_of report.period problem.tech (get_or problem.places.registers register origin)
      (arrival_of report.schedule.at register)) default found))
      (small_sink (get_or problem.places.registers register origin)
      (arrival_of report.schedule.at register)
      (problem.valid.near register origin (omega (arith, same, low)))
      (bounds.timing.arrivals register (pos 0) low))

-- ---- skews

-- a register's skew by the sinks that are read
pub denotes_level : (sinks : List Sink) (wire : ℕ → ℤ) (register : ℕ) (default : Sink)
    → (test : Bool) → register < length sinks → IsTrue test ↔ (wire register -ℤ wire 0
    ≡ (get_or sinks 0 default).offset -ℤ (get_or sinks register default).offset)
    → IsTrue test ↔ IsLevel sinks wire register
denotes_level sinks wire register default test within denotes = search (arith, slice_get-get_or)

-- wires down are one, so a register's skew is that of any
pub skewed_level : (sinks : List Sink) (merges : List Merge) (tree : Embedding) (wire : ℕ → ℤ)
    → IsTopology (length sinks) merges → AreWiresDown (length sinks) merges tree.length wire
    → (register : ℕ) → register < length sinks
    → IsLevel sinks wire register ↔ IsSkewed sinks merges tree register
skewed_level sinks merges tree wire topology down register within = (
  λ level other also.
      let here = one_wire topology tree.length wire other down also (source_of (length sinks))
      register (omega arith) (omega arith) in
      let first = one_wire topology tree.length wire other down also (source_of (length sinks)) 0
      (omega arith) (omega arith) in
      subst (λ z. IfSome (slice_get sinks register) (λ sink. IfSome (slice_get sinks 0)
      (λ first. z -ℤ other 0 ≡ first.offset -ℤ sink.offset))) here
      (subst (λ z. IfSome (slice_get sinks register) (λ sink. IfSome (slice_get sinks 0)
      (λ first. wire register -ℤ z ≡ first.offset -ℤ sink.offset))) first level),
  λ skewed. skewed wire down,
)

-- ---- reaches

-- what is judged of a node's reach
abbrev pub Reached : List Sink → (source : Uv) → Report → ℕ → Type 0
Reached sinks source report = IsReachShown sinks report.topology.merges source
    (embedding_of report.tree) (number_at report.tree.reach) report.shows

module _ (sinks : List Sink) (source : Uv) (report : Report)
    (topology : IsTopology (length sinks) report.topology.merges) where
  -- where the edge to each of the two that a merge joins is as long as reaches differ
  both_over : (place : ℕ) (merge : Merge) → slice_get report.topology.merges place ≡ Some merge
      → (below : ℕ) → Joins merge below → IsMergeShown sinks report place
      → IsReachOver report.tree (length sinks + place) below
  both_over place merge here below (inl same) shown =
      subst (IsReachOver report.tree (length sinks + place)) same
      (subst (λ found. IfSome found
      (λ merge. IsReachOver report.tree (length sinks + place) merge.first)) here shown.first)
  both_over place merge here below (inr same) shown =
      subst (IsReachOver report.tree (length sinks + place)) same
      (subst (λ found. IfSome found
      (λ merge. IsReachOver report.tree (length sinks + place) merge.second)) here shown.second)

  -- a merge's reach, by the two that it joins
  pub merge_shown : (place : ℕ) → place < length report.topology.merges
      → IsMergeShown sinks report place ↔ Reached sinks source report (length sinks + place)
  merge_shown place within = (there, back)
    where
      all : length sinks ≡ length report.topology.merges + 1
      all = topology.all

      there : IsMergeShown sinks report place → Reached sinks source report (length sinks + place)
      there shown = record {
        reach_is = below_is shown;
        of_merge = λ other low same.
            let at : place ≡ other = omega arith in
            subst (λ n. IsSomeAnd (slice_get report.shows n) (ShowsMerge sinks
            (numbers_below (length sinks) report.topology.merges (length sinks + place))
            (number_at report.tree.reach (length sinks + place)))) at shown.shown;
        of_source = λ same. absurd (omega (arith, all, same, within));
      }
        where
          below_is : IsMergeShown sinks report place → (below : ℕ)
              → IsParent (length sinks) report.topology.merges below (length sinks + place)
              → IsReachOver report.tree (length sinks + place) below
          below_is shown below (inl (other, is, found)) =
              let at : other ≡ place = omega arith in
              let (merge, here, joins) = some_and (slice_get report.topology.merges place)
              (λ merge. Joins merge below)
              (subst (λ n. IsSomeAnd (slice_get report.topology.merges n)
              (λ merge. Joins merge below)) at found) in
              both_over place merge here below joins shown
          below_is shown below (inr (is_root, is)) = absurd (omega (arith, all, is, within))

      back : Reached sinks source report (length sinks + place) → IsMergeShown sinks report place
      back shown = record {
        first = over (λ merge. merge.first) (λ merge. inl refl);
        second = over (λ merge. merge.second) (λ merge. inr refl);
        shown = shown.of_merge place within refl;
      }
        where
          over : (pick : Merge → ℕ) → ((merge : Merge) → Joins merge (pick merge))
              → IfSome (slice_get report.topology.merges place)
              (λ merge. IsReachOver report.tree (length sinks + place) (pick merge))
          over pick joins = at (slice_get report.topology.merges place) refl
            where
              at : (found : Option Merge) → slice_get report.topology.merges place ≡ found
                  → IfSome found
                  (λ merge. IsReachOver report.tree (length sinks + place) (pick merge))
              at None here = tt
              at (Some merge) here = shown.reach_is (pick merge)
                  (made_parent (length sinks) report.topology.merges place merge here
                  (pick merge) (joins merge))

  -- the source's, by the root
  pub source_shown : (node : ℕ) → node + 1 ≡ 2 * length sinks
      → IsSourceShown sinks source report ↔ Reached sinks source report node
  source_shown node last = (
    λ shown. record {
      reach_is = root_is shown;
      of_merge = λ place low same. absurd (omega (arith, topology.all));
      of_source = λ same. subst (λ node. IsSomeAnd (slice_get report.shows
          (length report.topology.merges))
          (ShowsSource sinks source (number_at report.tree.reach (root_of (length sinks)))
          (number_at report.tree.reach node))) (sym same) shown.shown;
    },
    λ shown. record {
      root = subst (λ node. IsReachOver report.tree node (root_of (length sinks))) is_source
          (shown.reach_is (root_of (length sinks)) (inr (refl, is_source)));
      shown = subst (λ node. IsSomeAnd (slice_get report.shows (length report.topology.merges))
          (ShowsSource sinks source (number_at report.tree.reach (root_of (length sinks)))
          (number_at report.tree.reach node))) is_source (shown.of_source is_source);
    },
  )
    where
      is_source : node ≡ source_of (length sinks)
      is_source = omega arith

      root_is : IsSourceShown sinks source report → (below : ℕ)
          → IsParent (length sinks) report.topology.merges below node
          → IsReachOver report.tree node below
      root_is shown below (inl (place, is, found)) =
          let (merge, here, joins) = some_and (slice_get report.topology.merges place)
          (λ merge. Joins merge below) found in
          absurd (omega
          (arith, slice_get_within report.topology.merges place merge here, topology.all))
      root_is shown below (inr (is_root, is)) =
          subst (λ node. IsReachOver report.tree node below) (sym is_source)
          (subst (IsReachOver report.tree (source_of (length sinks))) (sym is_root) shown.root)

-- ---- the wire

module _ (sinks : List Sink) (report : Report) (few : length sinks ≤ 4097)
    (edges : length report.tree.length + 1 ≡ 2 * length sinks)
    (small : All (IsBelow (10 ^ 32)) report.tree.length) where
  abbrev pub wire : ℤ
  wire = total_wire (length sinks) (embedding_of report.tree)

  -- it fits
  wire_fits : FitsSigned w128 wire
  wire_fits =
      let sum = total_within (number_at report.tree.length) (source_of (length sinks))
      (λ node here. small node (pos 0) (omega (arith, here, edges))) in
      omega (arith, ints, sum, few)

  -- so a test of the sum is one of the wire
  pub total_denoted : (lengths : List ℤ) → lengths ≡ report.tree.length → (sum : ℤ)
      → sum ≡ total_length (number_at lengths) (length lengths) → IsBelow (10 ^ 36) report.total
      → (of_z w128 sum ≡ of_z w128 report.total) ↔ (report.total ≡ wire)
  total_denoted lengths same sum is small_total = search (arith, same, to_z-of_z, ints, wire_fits)
