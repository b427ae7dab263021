-- The fields of a room as its state.
use Rattle.std.specs.Prelude.{◌≡◌, ℕ, ◌+◌, ◌-◌, ◌*◌, ◌^◌, ◌<◌, ◌≤◌, length, take}
use Rattle.cts_model.specs.declared.tree.Tree.{Tree}
use Rattle.merge_up.specs.Works.{WorkState}
use Rattle.merge_up.specs.declared.work.Work.TheInside.{Inside}

-- what a tree's lists hold of the nodes over so many sinks
abbrev pub cut : (sinks : ℕ) → Tree → Tree
cut sinks tree = record {
  reach = take (2 * sinks) tree.reach;
  place = take (2 * sinks) tree.place;
  length = take (2 * sinks - 1) tree.length;
}

-- the lists are as long as the room asks, and what they hold counts as far as there are nodes
abbrev pub state_of : Inside → WorkState
state_of work = record {
  room = length work.shows;
  sinks = work.sinks;
  tree = cut work.sinks work.tree;
  regions = work.regions;
  ends = work.ends;
  shows = take work.sinks work.shows;
  settled = take (2 * work.sinks) work.settled;
  renewals = work.renewals;
}

-- each list has an entry for each node that there is room for
pub record HasEntries (work : Inside) : Type 0 where
  pub some : 1 ≤ length work.shows
  pub few : length work.shows ≤ 4097
  pub merged : work.sinks ≤ length work.shows
  pub reaches : length work.tree.reach ≡ 2 * length work.shows
  pub places : length work.tree.place ≡ 2 * length work.shows
  pub lengths : length work.tree.length + 1 ≡ 2 * length work.shows
  pub regions : length work.regions + 1 ≡ 2 * length work.shows
  pub ends : length work.ends + 1 ≡ length work.shows
  pub settled : length work.settled ≡ 2 * length work.shows
  pub renewals : work.renewals < 2 ^ 64
