-- What a room in which trees are made holds of the tree of its last merge.
use Rattle.std.specs.Prelude.{◌≡◌, ℕ, ◌+◌, ◌-◌, ◌*◌, ◌^◌, ◌<◌, ◌≤◌, Bool, List, All, length, IsTrue}
use Rattle.cts_model.specs.declared.tree.Show.{Show}
use Rattle.cts_model.specs.declared.tree.Tree.{Tree}
use Rattle.tilted_rect.specs.declared.rect.Rect.{Rect}
use Rattle.merge_up.specs.declared.ends.Ends.{Ends}

-- for how many sinks there is room, and how many the last merge had, 0 before any; of these each
-- node's reach, place and length, each node's region, each merge's furthest sinks, the shows of
-- merges and then the source's, and which nodes are settled; and how many merges were renewed
pub record WorkState : Type 0 where
  pub room : ℕ
  pub sinks : ℕ
  pub tree : Tree
  pub regions : List Rect
  pub ends : List Ends
  pub shows : List Show
  pub settled : List Bool
  pub renewals : ℕ

-- each list has an entry for each node that it speaks of, and the count is one of 64 bits
pub record IsFit (work : WorkState) : Type 0 where
  pub some : 1 ≤ work.room
  pub few : work.room ≤ 4097
  pub merged : work.sinks ≤ work.room
  pub reaches : length work.tree.reach ≡ 2 * work.sinks
  pub places : length work.tree.place ≡ 2 * work.sinks
  pub lengths : length work.tree.length ≡ 2 * work.sinks - 1
  pub regions : 2 * work.room ≤ length work.regions + 1
  pub ends : work.room ≤ length work.ends + 1
  pub shows : length work.shows ≡ work.sinks
  pub settled : length work.settled ≡ 2 * work.sinks
  pub renewals : work.renewals < 2 ^ 64

-- after a merge all nodes and the source have their places
pub record IsSettled (work : WorkState) : Type 0 where
  pub merged : 1 ≤ work.sinks
  pub all : All IsTrue work.settled
