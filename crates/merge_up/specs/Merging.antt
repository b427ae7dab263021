-- The reaches, regions and shows of a topology's nodes, as a room holds them: Boese and Kahng 1992;
-- Chao and others 1992.
use Rattle.std.specs.Prelude.{◌≡◌, ℕ, ◌+◌, ◌-◌, ◌^◌, ◌<◌, Bool, min, false, true, All, IsFalse, List, IsSomeAnd, Some, length, replicate, slice_get, slice_set, ℤ, ◌+ℤ◌}
use Rattle.cts_model.specs.declared.place.Sink.{Sink}
use Rattle.cts_model.specs.declared.tree.Merge.{Merge}
use Rattle.cts_model.specs.declared.tree.Show.{Show}
use Rattle.cts_model.specs.declared.place.Point.{Point}
use Rattle.cts_model.specs.declared.place.Uv.{Uv}
use Rattle.cts_model.specs.Vocabulary.{IsDoubleReach, ShowsMerge, Joins, numbers_below, sinks_below, source_of, rotated}
use Rattle.tilted_rect.specs.Extremes.{IsRegion}
use Rattle.tilted_rect.specs.Rects.{HasSides}
use Rattle.tilted_rect.specs.declared.rect.Rect.{Rect}
use Rattle.merge_up.specs.Sides.{AreEnds}
use Rattle.merge_up.specs.Works.{WorkState, IsFit}
use Rattle.merge_up.specs.declared.ends.Ends.{Ends}

-- the rectangle is the sink's place
abbrev pub IsPointOf : Rect → Sink → Type 0
IsPointOf rect sink = HasSides rect sink.at.u sink.at.u sink.at.v sink.at.v

-- the sink's reach is its offset, and its region is its place
pub record HoldsSink (work : WorkState) (register : ℕ) (sink : Sink) : Type 0 where
  pub reach : slice_get work.tree.reach register ≡ Some sink.offset
  pub region : IsSomeAnd (slice_get work.regions register) (λ region. IsPointOf region sink)

-- the reach of the merge at that place is the least that its sinks allow, its region is where it
-- may stand then, and its show shows the reach
pub record HoldsMerge (sinks : List Sink) (merges : List Merge) (work : WorkState)
    (place : ℕ) : Type 0 where
  pub reach : ℤ
  pub region : Rect
  pub show : Show
  pub reach_held : slice_get work.tree.reach (length sinks + place) ≡ Some reach
  pub region_held : slice_get work.regions (length sinks + place) ≡ Some region
  pub show_held : slice_get work.shows place ≡ Some show
  pub is_reach : IsDoubleReach (sinks_below sinks merges (length sinks + place)) (reach +ℤ reach)
  pub is_region : IsRegion region (sinks_below sinks merges (length sinks + place)) reach
  pub shows : ShowsMerge sinks (numbers_below (length sinks) merges (length sinks + place)) reach
      show

-- the work holds all of the sinks
abbrev pub HoldsSinks : List Sink → WorkState → Type 0
HoldsSinks sinks work = (register : ℕ) (sink : Sink) → slice_get sinks register ≡ Some sink
    → HoldsSink work register sink

-- the work holds all the sinks and merges
pub record IsMerged (sinks : List Sink) (merges : List Merge) (work : WorkState) : Type 0 where
  pub count : work.sinks ≡ length sinks
  pub of_sinks : HoldsSinks sinks work
  pub of_merges : (place : ℕ) → place < length merges → HoldsMerge sinks merges work place

-- the work holds those of the two nodes that this merge joins which are merges
abbrev pub HoldsJoined : List Sink → List Merge → WorkState → (node : ℕ) → Type 0
HoldsJoined sinks merges work node = (merge : Merge) (place : ℕ)
    → slice_get merges (node - length sinks) ≡ Some merge → Joins merge (length sinks + place)
    → HoldsMerge sinks merges work place

-- what is kept beside the merge at that place are its furthest sinks
abbrev pub KeepsEnds : List Sink → List Merge → WorkState → (place : ℕ) → Type 0
KeepsEnds sinks merges work place = IsSomeAnd (slice_get work.ends place)
    (AreEnds sinks (numbers_below (length sinks) merges (length sinks + place)))

-- beside each merge its furthest sinks are kept
abbrev pub KeepsAllEnds : List Sink → List Merge → WorkState → Type 0
KeepsAllEnds sinks merges work = (place : ℕ) → place < length merges
    → KeepsEnds sinks merges work place

-- and so beside those of the two nodes that this merge joins which are merges
abbrev pub KeepsJoined : List Sink → List Merge → WorkState → (node : ℕ) → Type 0
KeepsJoined sinks merges work node = (merge : Merge) (place : ℕ)
    → slice_get merges (node - length sinks) ≡ Some merge → Joins merge (length sinks + place)
    → KeepsEnds sinks merges work place

-- nothing is settled
abbrev pub IsUnsettled : WorkState → Type 0
IsUnsettled work = All IsFalse work.settled

-- the same work with nothing settled
abbrev pub unsettled : WorkState → WorkState
unsettled work = record work { settled = replicate (length work.settled) false }

-- one more renewal is counted, up to the last number of 64 bits
abbrev pub counted : ℕ → ℕ
counted renewals = min (renewals + 1) (2 ^ 64 - 1)

-- the same work with this of the merge at a place, one more renewal and nothing settled
abbrev pub renewed_as : (sinks place : ℕ) → (reach : ℤ) → Rect → Ends → Show → WorkState → WorkState
renewed_as sinks place reach region ends show work = record (unsettled work) {
  tree = record work.tree { reach = slice_set work.tree.reach (sinks + place) reach };
  regions = slice_set work.regions (sinks + place) region;
  ends = slice_set work.ends place ends;
  shows = slice_set work.shows place show;
  renewals = counted work.renewals;
}

-- the same work with these places, lengths and marks of what is settled
abbrev pub placed_as : List Point → List ℤ → List Bool → WorkState → WorkState
placed_as places lengths settled work = record work {
  tree = record work.tree { place = places; length = lengths };
  settled = settled;
}

-- a sink's reach and region are set; all else stays
pub record IsSinkSet (register : ℕ) (sink : Sink) (old new : WorkState) : Type 0 where
  pub fit : IsFit new
  pub region : Rect
  pub point : IsPointOf region sink
  pub rest : new ≡ record (unsettled old) {
    tree = record old.tree { reach = slice_set old.tree.reach register sink.offset };
    regions = slice_set old.regions register region;
  }

-- a merge is held anew, its furthest sinks are kept beside it, and it is counted; all else stays
pub record IsRenewed (sinks : List Sink) (merges : List Merge) (place : ℕ)
    (old new : WorkState) : Type 0 where
  pub fit : IsFit new
  pub held : HoldsMerge sinks merges new place
  pub ends : Ends
  pub kept : KeepsEnds sinks merges new place
  pub rest : new ≡ renewed_as (length sinks) place held.reach held.region ends held.show old

-- a room in which nothing is made yet
pub record IsFresh (places : ℕ) (work : WorkState) : Type 0 where
  pub fit : IsFit work
  pub room : work.room ≡ places
  pub sinks : work.sinks ≡ 0
  pub settled : IsUnsettled work
  pub renewals : work.renewals ≡ 0

-- a node stands there, and its edge has that length; all else stays
pub record IsNodeSettled (node : ℕ) (at : Uv) (length : ℤ) (old new : WorkState) : Type 0 where
  pub fit : IsFit new
  pub point : Point
  pub stands : rotated point ≡ at
  pub rest : new ≡ placed_as (slice_set old.tree.place node point)
      (slice_set old.tree.length node length) (slice_set old.settled node true) old

-- the source stands there, with that reach and show; all else stays
pub record IsSourcePlaced (at : Uv) (reach : ℤ) (show : Show) (old new : WorkState) : Type 0 where
  pub fit : IsFit new
  pub point : Point
  pub stands : rotated point ≡ at
  pub rest : new ≡ record old {
    tree = record old.tree {
      place = slice_set old.tree.place (source_of old.sinks) point;
      reach = slice_set old.tree.reach (source_of old.sinks) reach;
    };
    shows = slice_set old.shows (old.sinks - 1) show;
    settled = slice_set old.settled (source_of old.sinks) true;
  }
