-- Which nodes are settled, as a list with an entry for each and a mark for all.
use Rattle.std.specs.Prelude.{◌≡◌, Bool, false, List, length, replicate}
use Rattle.merge_up.specs.declared.settled.Settled.TheInside.{Inside}

-- the entries are the state
abbrev pub nodes_of : Inside → List Bool
nodes_of settled = settled.nodes.items

-- without the mark no node is settled
abbrev pub IsNoneUnlessSome : Inside → Type 0
IsNoneUnlessSome settled = settled.some ≡ false
    → settled.nodes.items ≡ replicate (length settled.nodes.items) false
