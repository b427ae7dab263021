-- The tree of a report is within its bounds and of its circuit's size.
use Rattle.cts_engine.proofs.Vocabulary.{◌≡◌, ◌⊎◌, ◌<◌, ◌≤◌, ◌+◌, ◌*◌, ◌^◌, ℕ, ℤ, pos, ◌-ℤ◌, neg_ℤ, ◌≤ℤ◌, List, length, take, drop, get_or, Some, inl, inr, sym, ap, subst, ◌∙◌, arith, All, IfSome, slice_get, cases_lt, ints, clamps, get_or-drop, get_or-take, length-drop, length-take, get_or_from_slice_get, slice_get-get_or, slice_get_within, Fraction, Point, Sink, Uv, Tech, Merge, Show, Tree, Wire, embedding_of, IsGreedy, IsBelow, IsMultipleOf, IsPointBelow, IsUvBelow, IsUvMultipleOf, apart, distance, rotated, scheduled_length, sinks_of, IsMergeShow, IsSmallMerge, IsSmallWire, IsSourceShow, ShowsAmong, arrival_of, AreShown, AreShownBy, ShowsMerge, ShowsSource, IsParent, IsTopology, numbers_below, root_of, source_of, parent_above, parent_stands, distance-rotated, sink_at, first_made, second_made, some_and, AreTreeLists, HasTreeNumbers, AreDrawn, CanDraw}
use Rattle.std.specs.Int.{int_max}
use Rattle.cts_model.specs.Vocabulary.{IsDrawn}
use Rattle.cts_model.specs.declared.tree.Show.TheVariants as variants
use Rattle.cts_engine.proofs.DrawLemmas.{edge_wire, root_parent}

-- ---- plain points

-- a point by its rotated coordinates
point_below : (point : Point) → IsUvBelow (5 * 10 ^ 31) (rotated point)
    → IsPointBelow (5 * 10 ^ 31) point
point_below point below = search (arith, ints)

-- how far two multiples of 4 are apart is one
difference_of_quarters : (a b : ℤ) → IsMultipleOf 4 a → IsMultipleOf 4 b
    → IsMultipleOf 4 (a -ℤ b)
difference_of_quarters a b first second = omega (arith, ints)

either_of_quarters : (a b : ℤ) → IsMultipleOf 4 a → IsMultipleOf 4 b → IsMultipleOf 4 (int_max a b)
either_of_quarters a b first second = omega (arith, ints, clamps)

apart_of_quarters : (a b : ℤ) → IsMultipleOf 4 a → IsMultipleOf 4 b → IsMultipleOf 4 (apart a b)
apart_of_quarters a b first second = either_of_quarters (a -ℤ b) (b -ℤ a)
    (difference_of_quarters a b first second) (difference_of_quarters b a second first)

-- and so is a distance
distance_multiple : (a b : Point) → IsUvMultipleOf 4 (rotated a) → IsUvMultipleOf 4 (rotated b)
    → IsMultipleOf 4 (distance a b)
distance_multiple a b first second =
    search (arith, distance-rotated, either_of_quarters, apart_of_quarters)

-- ---- topologies

-- the greedy merges join all sinks
pub greedy_topology : (sinks : List Sink) (merges : List Merge) → IsGreedy sinks merges
    → IsTopology (length sinks) merges
greedy_topology sinks merges greedy = record {
  all = greedy.all;
  each = λ place merge here. (greedy.each place merge here).merges;
}

module _ {sinks : ℕ} {merges : List Merge} (topology : IsTopology sinks merges) (few : sinks ≤ 4097)
  where
    -- numbers of nodes are small
    pub merges_small : All IsSmallMerge merges
    merges_small place default here =
        let merge = get_or merges place default in
        let found = slice_get-get_or merges place default here in
        record {
          first = omega (
            arith,
            topology.all,
            first_made sinks merges topology.each place merge found,
          );
          second = omega (
            arith,
            topology.all,
            second_made sinks merges topology.each place merge found,
          );
        }

    -- the edges can be drawn
    pub can_draw : (tree : Tree) → AreTreeLists sinks tree → HasTreeNumbers tree
        → ((node parent : ℕ) → IsParent sinks merges node parent
        → distance ((embedding_of tree).place parent) ((embedding_of tree).place node)
        ≤ℤ (embedding_of tree).length node) → CanDraw sinks merges tree
    can_draw tree lists numbers enough node parent is =
        let low = parent_above topology node parent is in
        let high = parent_stands topology node parent is in
        let origin : Point = record { x = pos 0; y = pos 0 } in
        let here : node < length tree.place = omega (arith, lists.places, topology.all) in
        let there : parent < length tree.place = omega (arith, lists.places, topology.all) in
        let edge : node < length tree.length = omega (arith, lists.lengths, topology.all) in
        let long = numbers.lengths node (pos 0) edge in
        record {
          node_stands = here;
          parent_stands = there;
          long = edge;
          edge = record {
            from_below = point_below ((embedding_of tree).place parent)
                (numbers.places parent origin there);
            to_below = point_below ((embedding_of tree).place node)
                (numbers.places node origin here);
            multiple = long.multiple;
            distance_multiple = distance_multiple ((embedding_of tree).place parent)
                ((embedding_of tree).place node) (numbers.place_multiples parent origin there)
                (numbers.place_multiples node origin here);
            enough = enough node parent is;
            below = long.below.below;
          };
        }

-- ---- numbers

-- places are small
pub places_small : (tree : Tree) → HasTreeNumbers tree → All (IsPointBelow (10 ^ 32)) tree.place
places_small tree numbers node default here = search (arith, point_below, ints)

-- and so are lengths
pub lengths_small : (tree : Tree) → HasTreeNumbers tree → All (IsBelow (10 ^ 32)) tree.length
lengths_small tree numbers node default here = (numbers.lengths node default here).below

-- ---- shows

module _ {sinks : List Sink} {merges : List Merge} {source : Uv} {reach : ℕ → ℤ} {shows : List Show}
    (shown : AreShownBy sinks merges source reach shows) where
  -- what the list shows is shown
  pub are_shown : AreShown sinks merges source reach
  are_shown = record {
    of_sinks = shown.of_sinks;
    of_merges = λ place here.
        let (show, found, shows_it) = some_and (slice_get shows place) _
        (shown.of_merges place here) in
        (show, shows_it);
    of_source =
        let (show, found, shows_it) = some_and (slice_get shows (length merges)) _
        shown.of_source in
        (show, shows_it);
  }

  -- the show of a merge
  merge_show : (place : ℕ) (default : Show) → place < length merges
      → ShowsMerge sinks (numbers_below (length sinks) merges (length sinks + place))
      (reach (length sinks + place)) (get_or shows place default)
  merge_show place default here =
      let (show, found, shows_it) = some_and (slice_get shows place) _
      (shown.of_merges place here) in
      subst (ShowsMerge sinks (numbers_below (length sinks) merges (length sinks + place))
      (reach (length sinks + place))) (sym (get_or_from_slice_get shows place show default found))
      shows_it

  -- the source's
  source_show : (default : Show) → ShowsSource sinks source (reach (root_of (length sinks)))
      (reach (source_of (length sinks))) (get_or shows (length merges) default)
  source_show default = search (arith, some_and, get_or_from_slice_get)

  -- pairs in order show merges
  is_merge_show : (numbers : List ℕ) (at : ℤ) (show : Show) → ShowsMerge sinks numbers at show
      → IsMergeShow show × ShowsAmong (length sinks) show
  is_merge_show numbers at (variants.Pair first second) pair =
      let (one, here, rest) = some_and (slice_get sinks first) _ pair.value in
      let (other, there, same) = some_and (slice_get sinks second) _ rest in (
        pair.ordered,
        (
          slice_get_within sinks first one here,
          slice_get_within sinks second other there,
        ),
      )
  is_merge_show numbers at (variants.Sink register) none = absurd none
  is_merge_show numbers at variants.Root none = absurd none

  -- and a sink or the root the source
  is_source_show : (root at : ℤ) (show : Show) → ShowsSource sinks source root at show
      → IsSourceShow show × ShowsAmong (length sinks) show
  is_source_show root at (variants.Pair first second) none = absurd none
  is_source_show root at (variants.Sink register) is =
      let (one, here, same) = some_and (slice_get sinks register) _ is in
      (tt, slice_get_within sinks register one here)
  is_source_show root at variants.Root is = (tt, tt)

  pub merge_shows : All IsMergeShow (take (length merges) shows)
  merge_shows place default here =
      search (arith, length-take, get_or-take, is_merge_show, merge_show)

  pub source_shows : All IsSourceShow (drop (length merges) shows)
  source_shows place default here =
      let first : length merges + place ≡ length merges =
      omega (arith, length-drop (length merges) shows, shown.all) in
      subst IsSourceShow (sym (get_or-drop (length merges) shows place default
      ∙ ap (λ n. get_or shows n default) first))
      (is_source_show _ _ _ (source_show default)).0

  -- they name sinks
  pub shows_among : All (ShowsAmong (length sinks)) shows
  shows_among place default here = by_place (cases_lt place (length merges))
    where
      by_place : (place < length merges) ⊎ (length merges ≤ place)
          → ShowsAmong (length sinks) (get_or shows place default)
      by_place (inl low) = (is_merge_show _ _ _ (merge_show place default low)).1
      by_place (inr high) =
          let last : length merges ≡ place = omega (arith, shown.all) in
          subst (λ n. ShowsAmong (length sinks) (get_or shows n default)) last
          (is_source_show _ _ _ (source_show default)).1

-- ---- what isn't printed

-- a sink's reach is minus its scheduled length
pub sink_reaches : (period : Fraction) (tech : Tech) (places : List Point) (at : List ℤ)
    → (reach : ℕ → ℤ) → length places ≡ length at
    → ((register : ℕ) → IfSome (slice_get (sinks_of period tech places at) register)
    (λ sink. reach register ≡ sink.offset)) → (register : ℕ) → register < length at
    → reach register ≡ neg_ℤ (scheduled_length tech (arrival_of at register))
sink_reaches period tech places at reach same of_sinks register here =
    subst (λ found. IfSome found (λ sink. reach register ≡ sink.offset))
    (sink_at period tech places at (record { x = pos 0; y = pos 0 }) register same here)
    (of_sinks register)

-- the source stands where the root's wire begins
pub source_begins : (sinks : ℕ) (merges : List Merge) (tree : Tree) (wires : List Wire)
    → 1 ≤ sinks → AreTreeLists sinks tree → AreDrawn sinks merges (embedding_of tree) wires
    → All IsSmallWire wires → (wire : Wire) → slice_get wires (root_of sinks) ≡ Some wire
    → slice_get tree.place (source_of sinks) ≡ slice_get wire.corners 0
source_begins sinks merges tree wires some lists drawn small wire found =
    let origin : Point = record { x = pos 0; y = pos 0 } in
    let place = (embedding_of tree).place (source_of sinks) in
    let begins = (edge_wire IsDrawn sinks merges (embedding_of tree) wires drawn.drawn
    (root_of sinks) (source_of sinks) wire (root_parent sinks merges) found).begins in
    let first = get_or_from_slice_get (take wire.used wire.corners) 0 place origin begins in
    let within = slice_get_within (take wire.used wire.corners) 0 place begins in
    let used : 0 < wire.used = omega (arith, length-take wire.used wire.corners) in
    let there : 0 < length wire.corners = omega (arith, length-take wire.used wire.corners) in
    slice_get-get_or tree.place (source_of sinks) origin (omega (arith, lists.places))
    ∙ ap Some (sym first ∙ get_or-take wire.used wire.corners 0 origin used)
    ∙ sym (slice_get-get_or wire.corners 0 origin there)
