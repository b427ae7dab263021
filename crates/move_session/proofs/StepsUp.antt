-- The walk over the merges from a sink up to the root.
use Rattle.move_session.proofs.Vocabulary.{◌≡◌, ◌≢◌, inl, inr, ℕ, zero, ◌+◌, ◌-◌, ◌^◌, ◌<◌, ◌≤◌, min, true, false, List, [], length, take, get_or, Some, slice_get, refl, sym, ap, subst, ◌∙◌, arith, Contains, count_by, range_with_len, get_or-take, length-take, take_all, Sink, Merge, IsLive, IsMerge, IsTopology, Joins, numbers_below, merge_at, merge_here, numbers_below-sink, HoldsSinks, HoldsWithEnds, IsRenewed, IsFit, WorkState, ends_renewed, merges_renewed, sinks_renewed, IsMergedBeside, IsStep, JoinsAt, is_above, merges_above}
use Rattle.std.specs.Cmp.{nat_eq_equiv}
use Rattle.std.proofs.lemmas.Bool.{cases_eq, cases_lt, eqb-true, false_from_ne_true}
use Rattle.std.proofs.lemmas.List.FromFn.{get_or-range_with_len, length-range_with_len}
use Rattle.std.proofs.lemmas.List.Sums.{count_by_more_no, count_by_more_yes}
use Rattle.std.proofs.lemmas.Map.Views.{Contains-from_any, list_any-from_Contains}
use Rattle.merge_up.proofs.SearchLemmas.{below_either, below_merge, only_one}

module _ (sinks : List Sink) (merges : List Merge) (register : ℕ) where
  -- the sink is below the node
  abbrev Below : ℕ → Type 0
  Below node = Contains (numbers_below (length sinks) merges node) register

  -- how many of the merges before a place have the sink below them
  abbrev above_before : ℕ → ℕ
  above_before place = count_by (is_above (length sinks) merges register)
      (take place (range_with_len 0 (length merges)))

  -- the merges before the place are held, as are those that don't have the sink below them, and
  -- the node is the live one that has it
  pub record IsOnWay (place node : ℕ) (old work : WorkState) : Type 0 where
    pub count : work.sinks ≡ length sinks
    pub room : work.room ≡ old.room
    pub of_sinks : HoldsSinks sinks work
    pub of_merges : (lower : ℕ) → lower < length merges
        → (place ≤ lower → Below (length sinks + lower) → ⊥)
        → HoldsWithEnds sinks merges work lower
    pub below : Below node
    pub one : (other : ℕ) → IsLive (length sinks) (take place merges) other → Below other
        → other ≡ node
    pub renewals : work.renewals ≡ min (old.renewals + above_before place) (2 ^ 64 - 1)

  -- it begins at the sink
  pub on_way_first : (work : WorkState) → register < length sinks → IsFit work
      → IsMergedBeside sinks merges register work → IsOnWay 0 register work work
  on_way_first work within fit beside =
      let none : above_before 0 ≡ 0 = refl in
      record {
        count = beside.count;
        room = refl;
        of_sinks = beside.of_sinks;
        of_merges = λ lower made beyond. beside.of_merges lower made (beyond (omega arith));
        below = rw (numbers_below-sink (length sinks) merges register within)
            (zero, omega arith, refl);
        one = λ other live below.
            let made : other < length sinks = omega (arith, live.made) in
            sym (only_one other register
            (rw (numbers_below-sink (length sinks) merges other made) at below));
        renewals = omega (arith, fit.renewals, none);
      }

  -- past the last merge each merge above the sink is renewed once
  pub way_counted : {node : ℕ} {old work : WorkState} → IsOnWay (length merges) node old work
      → work.renewals
      ≡ min (old.renewals + merges_above (length sinks) merges register) (2 ^ 64 - 1)
  way_counted way = rw (take_all (length merges) (range_with_len 0 (length merges))
      (omega (arith, length-range_with_len 0 (length merges)))) at way.renewals

  module _ (topology : IsTopology (length sinks) merges) where
    module _ (place : ℕ) (within : place < length merges) where
      -- the merge at the place
      here : slice_get merges place ≡ Some (merge_at merges place)
      here = merge_here merges place within

      joins : IsMerge (length sinks) (take place merges) (merge_at merges place)
      joins = topology.each place (merge_at merges place) here

      -- it is above a sink where it joins the live node that has the sink below it
      above_joined : (node : ℕ) → Below node → JoinsAt merges place node
          → Below (length sinks + place)
      above_joined node below found = below_merge (length sinks) merges topology place within
          register node (rw here at found) below

      -- and nowhere else
      joined_above : (node : ℕ) → ((other : ℕ) → IsLive (length sinks) (take place merges) other
          → Below other → other ≡ node) → Below (length sinks + place) → JoinsAt merges place node
      joined_above node one below = rw here (elim (below_either (length sinks) merges topology
          place within register below) [
            | inl first ↦ inl (one (merge_at merges place).first joins.first first)
            | inr second ↦ inr (one (merge_at merges place).second joins.second second)
          ])

      -- a node that lives after the merge is what it makes, or lived before it
      live_before : (other : ℕ) → IsLive (length sinks) (take (place + 1) merges) other
          → other < length sinks + place → IsLive (length sinks) (take place merges) other
      live_before other live low = record {
        made = omega (arith, low, within, length-take place merges);
        unjoined = λ lower default before.
            let first : lower < place = omega (arith, before, within, length-take place merges) in
            rw (
              get_or-take place merges lower default first,
              ← get_or-take (place + 1) merges lower default (omega (arith, first)),
            )
            (live.unjoined lower default (omega
            (arith, first, within, length-take (place + 1) merges)));
      }

      -- and isn't joined by it
      live_apart : (other : ℕ) → IsLive (length sinks) (take (place + 1) merges) other
          → Joins (merge_at merges place) other → ⊥
      live_apart other live joined =
          let apart = rw (get_or-take (place + 1) merges place (merge_at [] 0) (omega arith)) at
          (live.unjoined place (merge_at [] 0) (omega
          (arith, within, length-take (place + 1) merges))) in
          elim joined [
            | inl same ↦ apart.0 same
            | inr same ↦ apart.1 same
          ]

      made_last : (other : ℕ) → IsLive (length sinks) (take (place + 1) merges) other
          → length sinks + place ≤ other → other ≡ length sinks + place
      made_last other live high =
          omega (arith, high, live.made, within, length-take (place + 1) merges)

      range_within : place < length (range_with_len 0 (length merges))
      range_within = omega (arith, within, length-range_with_len 0 (length merges))

      here_in_range : get_or (range_with_len 0 (length merges)) place 0 ≡ place
      here_in_range = get_or-range_with_len 0 (length merges) place 0 within ∙ omega arith

      module _ {node : ℕ} {old work : WorkState} (way : IsOnWay place node old work) where
        -- a merge that joins others is passed
        passed : (JoinsAt merges place node → ⊥) → IsOnWay (place + 1) node old work
        passed apart = record {
          count = way.count;
          room = way.room;
          of_sinks = way.of_sinks;
          of_merges = λ lower made beyond. way.of_merges lower made (λ past below.
              elim (cases_eq lower place) [
                | inl same ↦ not_above (rw same at below)
                | inr other ↦ beyond (omega (arith, past, other)) below
              ]);
          below = way.below;
          one = λ other live below. elim (cases_lt other (length sinks + place)) [
            | inl low ↦ way.one other (live_before other live low) below
            | inr high ↦ absurd (not_above (subst Below (made_last other live high) below))
          ];
          renewals = rw counted_as_before way.renewals;
        }
          where
            not_above : Below (length sinks + place) → ⊥
            not_above below = apart (joined_above node way.one below)

            not_counted : is_above (length sinks) merges register place ≡ false
            not_counted = false_from_ne_true (is_above (length sinks) merges register place)
                (λ any. not_above (Contains-from_any eqb-true register
                (numbers_below (length sinks) merges (length sinks + place)) any))

            counted_as_before : above_before (place + 1) ≡ above_before place
            counted_as_before = count_by_more_no (is_above (length sinks) merges register)
                (range_with_len 0 (length merges)) place 0 range_within
                (ap (is_above (length sinks) merges register) here_in_range ∙ not_counted)

        -- one that joins the node is renewed, and goes on
        renewed : (new : WorkState) → JoinsAt merges place node
            → IsRenewed sinks merges place work new
            → IsOnWay (place + 1) (length sinks + place) old new
        renewed new joined is = record {
          count = ap (λ work. work.sinks) is.rest ∙ way.count;
          room = ap (λ work. work.room) is.rest ∙ way.room;
          of_sinks = sinks_renewed is way.of_sinks;
          of_merges = λ lower made beyond.
              let held : (lower ≢ place) → HoldsWithEnds sinks merges work lower =
              λ apart. way.of_merges lower made (λ past. beyond (omega (arith, past, apart))) in (
                merges_renewed is lower (λ apart. (held apart).0),
                ends_renewed is lower (λ apart. (held apart).1),
              );
          below = above_joined node way.below joined;
          one = λ other live below. elim (cases_lt other (length sinks + place)) [
            | inl low ↦ absurd (live_apart other live (subst (Joins (merge_at merges place))
                (sym (way.one other (live_before other live low) below))
                (rw here at joined)))
            | inr high ↦ made_last other live high
          ];
          renewals = once work.renewals new.renewals (2 ^ 64 - 1)
              (ap (λ work. work.renewals) is.rest) way.renewals counted_here;
        }
          where
            is_one : is_above (length sinks) merges register
                (get_or (range_with_len 0 (length merges)) place 0) ≡ true
            is_one =
                ap (is_above (length sinks) merges register) here_in_range
                ∙ list_any-from_Contains nat_eq_equiv register
                (numbers_below (length sinks) merges (length sinks + place))
                (above_joined node way.below joined)

            counted_here : above_before (place + 1) ≡ above_before place + 1
            counted_here = count_by_more_yes (is_above (length sinks) merges register)
                (range_with_len 0 (length merges)) place 0 range_within is_one

            once : (before after most : ℕ) → after ≡ min (before + 1) most
                → before ≡ min (old.renewals + above_before place) most
                → above_before (place + 1) ≡ above_before place + 1
                → after ≡ min (old.renewals + above_before (place + 1)) most
            once before after most is earlier more = omega (arith, is, earlier, more)

        -- either way the walk goes on
        pub on_way_next : (new : WorkState) (next : ℕ)
            → IsStep sinks merges place node work new next → IsOnWay (place + 1) next old new
        on_way_next new next (inl up) = rw up.up (renewed new up.joins up.renewed)
        on_way_next new next (inr past) = rw (past.same, past.stays) (passed past.apart)
