-- A tree whose nodes all have their places.
use Rattle.place_down.proofs.Vocabulary.{◌≡◌, ◌↔◌, ℕ, ◌+◌, ◌-◌, ◌*◌, ◌^◌, ◌<◌, ◌≤◌, inl, inr, true, false, ℤ, pos, ◌-ℤ◌, ◌*ℤ◌, ◌≤ℤ◌, List, Some, unwrap_or, length, get_or, slice_get, slice_set, refl, sym, ap, subst, ◌∙◌, arith, cases_lt, ints, clamps, slice_get_cases, slice_get_within, slice_get-get_or, get_or_from_slice_get, Point, Sink, Uv, Merge, Show, AreChosen, IsEmbedding, embedding_of, IsBelow, IsMultipleOf, IsUvBelow, IsUvMultipleOf, scaled, rotated, rotated_distance, InRegion, AreTreeSinks, IsTopology, IsParent, Joins, root_of, source_of, has_parent, parent_stands, distance_from_zero, same_uv, some_and, sinks_below-sink, IsMerged, IsSourcePlaced, WorkState, IsFit, IsSettled, set_held, set_kept, contains_itself, CanSettle, IsSettledBelow, StandFrom, StandsBelow, StaysAbove, standing, IsTop, HasTreeNumbers, IsEdgeLength, IsPlacedTree, IsTreeSource, StaysMerged, merged_as, reach_in, Top}
use Rattle.std.specs.Prelude.{All, Bool, IsTrue, Option}
use Rattle.std.proofs.lemmas.Grind.{get_or-set_at}
use Rattle.cts_model.specs.declared.tree.Show.TheVariants.{Root}
use Rattle.cts_model.specs.Vocabulary.{AreShownBy}
use Rattle.place_down.proofs.RegionBounds.{below_more, holds_node, over_one, place_of_node, point_below_more, region_of_source}
use Rattle.place_down.proofs.Standing.{IsReady, above_twice, can_settle, child_above, child_stands, held_small, merged_kept, merged_still, origin, point_of, stays_below}

-- what holds of each place holds of all, whatever stands past the end
each_is : {X : Type 0} (Holds : X → Type 0) (items : List X) (one : X)
    → ((place : ℕ) → place < length items → Holds (get_or items place one)) → All Holds items
each_is Holds items one holds = λ place default within. subst Holds
    (get_or_from_slice_get items place (get_or items place default) one
    (slice_get-get_or items place default within)) (holds place within)

-- the source's place leaves what was merged
source_stays : {source : Uv} {reach : ℤ} {show : Show} {old new : WorkState}
    → IsSourcePlaced source reach show old new → StaysMerged old new
source_stays {source} {reach} {show} {old} {new} placed = record {
  rest = ap (merged_as new.tree new.shows new.settled) placed.rest;
  reaches = λ node below. ap (λ work. slice_get work.tree.reach node) placed.rest
      ∙ set_kept old.tree.reach (source_of old.sinks) node reach
      (λ same. omega (arith, below, same));
  shows = λ place below. ap (λ work. slice_get work.shows place) placed.rest
      ∙ set_kept old.shows (old.sinks - 1) place show (λ same. omega (arith, below, same));
}

-- ---- the way down

-- a parent is a merge or the source
parent_high : {sinks : ℕ} {merges : List Merge} → IsTopology sinks merges → (node parent : ℕ)
    → IsParent sinks merges node parent → sinks + 0 ≤ parent
parent_high topology node parent (inl (place, is, found)) = omega (arith, is)
parent_high topology node parent (inr (is_root, is)) = omega (arith, is, topology.all)

-- no distance leaves one point
one_place : (a b : Uv) (far less : ℤ) → far ≡ less → rotated_distance a b ≤ℤ (far -ℤ pos 1 *ℤ less)
    → b ≡ a
one_place a b far less same near =
    same_uv (omega (arith, ints, clamps, same, near)) (omega (arith, ints, clamps, same, near))

module _ {sinks : List Sink} {merges : List Merge} (are : AreTreeSinks sinks)
    (topology : IsTopology (length sinks) merges) {source : Uv} {root : ℤ} {top : Top}
    {old first : WorkState} (from : IsTreeSource source) (fit : IsFit old)
    (merged : IsMerged sinks merges old)
    (root_held : slice_get old.tree.reach (root_of (length sinks)) ≡ Some root)
    (is : IsTop sinks sinks source root top)
    (placed : IsSourcePlaced source top.reach top.show old first) where
  -- what a work has of the source: where it stands, whether it is settled, its reach and its show
  abbrev at_source : WorkState → Point × Bool × ℤ × Option Show
  at_source work = (
    point_of work (source_of (length sinks)),
    get_or work.settled (source_of (length sinks)) false,
    reach_in work.tree (source_of (length sinks)),
    slice_get work.shows (length merges),
  )

  -- once the source is placed, that is what was given
  first_source : at_source first ≡ (placed.point, true, top.reach, Some top.show)
  first_source =
      let source = source_of (length sinks) in
      let same : source ≡ source_of old.sinks = ap source_of (sym merged.count) in
      let last : old.sinks - 1 ≡ length merges = omega (arith, merged.count, topology.all) in
      ap at_source placed.rest ∙ (λ i. (
        get_or-set_at old.tree.place (source_of old.sinks) source placed.point origin same
            (omega (arith, fit, merged.count, are.some)) i,
        get_or-set_at old.settled (source_of old.sinks) source true false same
            (omega (arith, fit, merged.count, are.some)) i,
        get_or-set_at old.tree.reach (source_of old.sinks) source top.reach (pos 0) same
            (omega (arith, fit, merged.count, are.some)) i,
        (subst (λ n. slice_get (slice_set old.shows (old.sinks - 1) top.show) n ≡ Some top.show)
            last (set_held old.shows (old.sinks - 1) top.show (omega
            (arith, fit, merged.count, are.some)))) i,
      ))

  -- so the root may be settled
  source_ready : IsReady are topology first (source_of (length sinks)) top.reach source
  source_ready = record {
    fit = placed.fit;
    merged = merged_kept topology (source_stays placed) merged;
    reach_is = ap (λ at. at.2) first_source;
    stands = ap (λ at. rotated at.0) first_source ∙ placed.stands;
    small = below_more (omega arith) is.below;
    below = point_below_more (omega arith) from.below;
    multiple = record {
      u = omega (arith, ints, from.multiple.u);
      v = omega (arith, ints, from.multiple.v);
    };
    within = λ node child. region_of_source are topology source root top.reach is.reach node;
  }

  pub can_settle_root : CanSettle (root_of (length sinks)) top.reach source first
  can_settle_root = can_settle are topology source_ready (inr (refl, refl))

  module _ {second : WorkState}
      (settled : IsSettledBelow (root_of (length sinks)) top.reach source first second) where
    -- nothing but the root's place changes then
    root_above : StaysAbove first second
    root_above = child_above are topology source_ready (inr (refl, refl)) settled

    -- the root is the only node with the source for its parent
    each_below_source : (node parent : ℕ) → IsParent (length sinks) merges node parent
        → length sinks + length merges ≤ parent → StandsBelow sinks merges second node parent
    each_below_source node parent (inl (place, is, found)) high =
        let (merge, here, joins) = some_and (slice_get merges place)
        (λ merge. Joins merge node) found in
        absurd (omega (arith, high, is, slice_get_within merges place merge here))
    each_below_source node parent (inr (is_root, is_source)) high = rw (is_root, is_source)
        (child_stands are topology source_ready (inr (refl, refl)) settled)

    -- so merges may come one after the other
    pub root_stand : StandFrom sinks merges (length merges) second
    root_stand = record {
      fit = settled.placed.fit;
      merged = merged_still topology root_above source_ready.merged;
      each = each_below_source;
    }

    module _ {new : WorkState} (stand : StandFrom sinks merges 0 new)
        (stays : StaysAbove second new) where
      -- the lists are as long as there are nodes
      room : IsFit new × (new.sinks ≡ length sinks) × (1 ≤ length sinks)
      room = (stand.fit, stand.merged.count, are.some)

      -- nothing but places of nodes below the source changes then
      all_above : StaysAbove first new
      all_above = above_twice root_above stays

      -- so reaches, regions and shows of sinks and merges stay
      new_stays : StaysMerged old new
      new_stays = stays_below (source_stays placed) all_above

      -- each node but the source stands below its parent
      all_stand : (node parent : ℕ) → IsParent (length sinks) merges node parent
          → StandsBelow sinks merges new node parent
      all_stand node parent below =
          stand.each node parent below (parent_high topology node parent below)

      -- what the work has of the source stays
      new_source : at_source new ≡ (placed.point, true, top.reach, Some top.show)
      new_source =
          let above = subst (λ n. standing new (source_of n) ≡ standing first (source_of n))
          source_ready.merged.count all_above.source in
          let rest = ap at_source all_above.rest in
          (λ i. ((above i).0, (above i).2, (rest i).2, (rest i).3)) ∙ first_source

      -- so the source stands where it did, with its reach and its show
      source_stands : rotated (point_of new (source_of (length sinks))) ≡ source
      source_stands = ap (λ at. rotated at.0) new_source ∙ placed.stands

      source_reach_is : reach_in new.tree (source_of (length sinks)) ≡ top.reach
      source_reach_is = ap (λ at. at.2) new_source

      show_is : slice_get new.shows (length merges) ≡ Some top.show
      show_is = ap (λ at. at.3) new_source

      -- and the root has its reach
      root_reach_is : reach_in new.tree (root_of (length sinks)) ≡ root
      root_reach_is = get_or_from_slice_get new.tree.reach (root_of (length sinks)) root (pos 0)
          (new_stays.reaches (root_of (length sinks)) (omega (arith, merged.count, are.some))
          ∙ root_held)

      -- ---- the numbers

      -- the reach of each node is small
      reach_at : (node : ℕ) → node < length new.tree.reach
          → IsBelow (3 * 10 ^ 31) (reach_in new.tree node) × IsMultipleOf 4 (reach_in new.tree node)
      reach_at node within = elim (cases_lt node (source_of (length sinks))) [
        | inl below ↦
            let small = held_small are topology new stand.merged node below in
            (below_more (omega arith) small.0, small.1)
        | inr high ↦
            let last : node ≡ source_of (length sinks) = omega (arith, high, within, room) in
            rw (last, source_reach_is) (is.below, is.multiple)
      ]

      -- and so is where it stands
      place_at : (node : ℕ) → node < length new.tree.place
          → IsUvBelow (5 * 10 ^ 31) (rotated (point_of new node))
          × IsUvMultipleOf 4 (rotated (point_of new node))
      place_at node within = elim (cases_lt node (source_of (length sinks))) [
        | inl below ↦
            let parent = has_parent topology node below in
            let stands = all_stand node parent.0 parent.1 in
            let held = holds_node are topology new stand.merged node below in (
              place_of_node are topology node (reach_in new.tree node)
                  (rotated (point_of new node)) below held.is_reach stands.chosen.within,
              stands.multiple,
            )
        | inr high ↦
            let last : node ≡ source_of (length sinks) = omega (arith, high, within, room) in
            rw (last, source_stands)
            (point_below_more (omega arith) from.below, source_ready.multiple)
      ]

      -- and how long its edge is
      length_at : (node : ℕ) → node < source_of (length sinks)
          → IsEdgeLength ((embedding_of new.tree).length node)
      length_at node below =
          let parent = has_parent topology node below in
          let stands = all_stand node parent.0 parent.1 in
          let high = parent_stands topology node parent.0 parent.1 in
          let zero = distance_from_zero (point_of new parent.0) (point_of new node) in
          let upper = reach_at parent.0 (omega (arith, high, room)) in
          let lower = reach_at node (omega (arith, below, room)) in
          record {
            least = omega (arith, ints, zero, stands.near);
            below = record {
              above = omega (arith, ints, zero, stands.near);
              below = omega (arith, ints, stands.length, upper.0, lower.0);
            };
            multiple = omega (arith, ints, stands.length, upper.1, lower.1);
          }

      -- so all numbers are small
      new_numbers : HasTreeNumbers new.tree
      new_numbers = record {
        reaches = each_is (IsBelow (10 ^ 32)) new.tree.reach (pos 0)
            (λ node within. below_more (omega arith) (reach_at node within).0);
        reach_multiples = each_is (IsMultipleOf 4) new.tree.reach (pos 0)
            (λ node within. (reach_at node within).1);
        places = each_is (λ point. IsUvBelow (5 * 10 ^ 31) (rotated point)) new.tree.place origin
            (λ node within. (place_at node within).0);
        place_multiples = each_is (λ point. IsUvMultipleOf 4 (rotated point)) new.tree.place origin
            (λ node within. (place_at node within).1);
        lengths = each_is IsEdgeLength new.tree.length (pos 0) (λ node within. length_at node
            (omega (arith, within, room)));
      }

      -- all nodes are settled
      new_settled : IsSettled new
      new_settled = record {
        merged = omega (arith, room);
        all = each_is IsTrue new.settled false settled_at;
      }
        where
          settled_at : (node : ℕ) → node < length new.settled → get_or new.settled node false ≡ true
          settled_at node within = elim (cases_lt node (source_of (length sinks))) [
            | inl below ↦
                let parent = has_parent topology node below in
                (all_stand node parent.0 parent.1).settled
            | inr high ↦
                let last : node ≡ source_of (length sinks) = omega (arith, high, within, room) in
                ap (λ n. get_or new.settled n false) last ∙ ap (λ at. at.1) new_source
          ]

      -- ---- the tree

      -- a sink stands at its place
      sink_stands : (register : ℕ) (sink : Sink) → slice_get sinks register ≡ Some sink
          → rotated (point_of new register) ≡ scaled 1 sink.at
      sink_stands register sink here =
          let within = slice_get_within sinks register sink here in
          let parent = has_parent topology register (omega (arith, within)) in
          let stands = all_stand register parent.0 parent.1 in
          let reach = get_or_from_slice_get new.tree.reach register sink.offset (pos 0)
          (stand.merged.of_sinks register sink here).reach in
          let region = subst (λ set. InRegion set 1 (reach_in new.tree register)
          (rotated (point_of new register))) (sinks_below-sink sinks merges register sink here)
          stands.chosen.within in
          one_place (scaled 1 sink.at) (rotated (point_of new register))
          (reach_in new.tree register) sink.offset reach (region sink (contains_itself sink))

      -- so the tree embeds the topology
      new_embeds : IsEmbedding 1 sinks merges source (embedding_of new.tree)
      new_embeds = record {
        sinks_stand = λ register. elim ((slice_get_cases sinks register).1) [
          | inl there ↦ rw there.2 (sink_stands register there.0 there.2)
          | inr past ↦ rw past.1 tt
        ];
        source_stands = rw (over_one source.u, over_one source.v) source_stands;
        long_enough = λ node parent below. (all_stand node parent below).near;
      }

      -- a merge has the reach that is held of it
      reach_of_merge : (place : ℕ) (within : place < length merges)
          → reach_in new.tree (length sinks + place) ≡ (stand.merged.of_merges place within).reach
      reach_of_merge place within = get_or_from_slice_get new.tree.reach (length sinks + place) _
          (pos 0) (stand.merged.of_merges place within).reach_held

      -- so each stands at its chosen place with the least reach
      new_chosen : AreChosen sinks merges (reach_in new.tree) (embedding_of new.tree)
      new_chosen = record {
        reaches = λ place merge here.
            let within = slice_get_within merges place merge here in
            rw (reach_of_merge place within) (stand.merged.of_merges place within).is_reach;
        places = λ place parent merge here below.
            (all_stand (length sinks + place) parent below).chosen;
      }

      -- and each reach is shown
      new_shown : AreShownBy sinks merges source (reach_in new.tree) new.shows
      new_shown = record {
        all = omega (arith, room, topology.all);
        of_sinks = λ register. elim ((slice_get_cases sinks register).1) [
          | inl there ↦ rw there.2 (get_or_from_slice_get new.tree.reach register there.0.offset
              (pos 0) (stand.merged.of_sinks register there.0 there.2).reach)
          | inr past ↦ rw past.1 tt
        ];
        of_merges = λ place within.
            let held = stand.merged.of_merges place within in
            rw held.show_held (rw (reach_of_merge place within) held.shows);
        of_source = rw (show_is, root_reach_is, source_reach_is) is.shown;
      }

      -- the edge of the root is as long as the source's reach is above the root's
      root_length : (embedding_of new.tree).length (root_of (length sinks)) ≡ top.reach -ℤ root
      root_length = rw (root_reach_is, source_reach_is) at (all_stand (root_of (length sinks))
          (source_of (length sinks)) (inr (refl, refl))).length

      -- so the root shows it exactly where that is nothing
      new_root_shows : slice_get new.shows (length merges) ≡ Some Root
          ↔ ((embedding_of new.tree).length (root_of (length sinks)) ≡ pos 0)
      new_root_shows = (
        λ same.
            let by_root = is.root_shows.0 (ap (λ o. unwrap_or o Root) (sym show_is ∙ same)) in
            omega (arith, ints, root_length, by_root),
        λ none. show_is ∙ ap Some (is.root_shows.1 (omega (arith, ints, root_length, none))),
      )

      -- all in one
      new_tree : IsPlacedTree sinks merges source new.tree new.shows
      new_tree = record {
        embedded = new_embeds;
        reaches = λ node parent below. (all_stand node parent below).length;
        chosen = new_chosen;
        source_reach = rw (root_reach_is, source_reach_is) is.reach;
        shown = new_shown;
        root_shows = new_root_shows;
      }

      -- so the work holds the tree
      pub all_placed : IsPlacedTree sinks merges source new.tree new.shows
          × HasTreeNumbers new.tree × IsSettled new × StaysMerged old new
      all_placed = (new_tree, new_numbers, new_settled, new_stays)
