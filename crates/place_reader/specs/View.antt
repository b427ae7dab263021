-- What the reader's lines are in the terms of the format.
use Rattle.std.specs.Prelude.{Bool, true, false}
use Rattle.place_reader.specs.declared.entry.Node.{Node}
use Rattle.place_reader.specs.declared.entry.Entry.{Entry}
use Rattle.place_reader.specs.declared.entry.Entry.TheVariants.{Blank, Header, Stands}
use Rattle.cts_model.specs.placement.PlaceLines as format

-- a node's line, wherever its words lie
abbrev pub node_said : Node → format.Node
node_said node = record { name = node.name.now; x = node.x.now; y = node.y.now }

-- what a line is, wherever its words lie
abbrev pub said_by : Entry → format.Entry
said_by Blank = format.Blank
said_by Header = format.Header
said_by (Stands node) = format.Stands (node_said node)

-- such a line isn't blank
abbrev pub is_written : format.Entry → Bool
is_written format.Blank = false
is_written _ = true
