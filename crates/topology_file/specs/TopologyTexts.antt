-- Topology files: the topology that a text tells, or the first fault that it has.
use Rattle.std.specs.Prelude.{◌≡◌, ℕ, suc, ◌+◌, ◌==◌, true, not, nat_le, List, [], ◌∷◌, length, Option, Some, None, Result, Ok, Err, if◌then◌else◌}
use Rattle.cts_base.specs.LineFormats.{first_fault, unless_faulty}
use Rattle.cts_base.specs.Lines.{lines_of}
use Rattle.cts_model.specs.declared.tree.Merge.{Merge}
use Rattle.cts_model.specs.declared.tree.Topology.{Topology}
use Rattle.cts_model.specs.Vocabulary.{IsTopology, entries_in, entries_of, has_words, words_in}
use Rattle.topology_file.specs.declared.fault.TopologyFault.{TopologyFault}
use Rattle.topology_file.specs.declared.fault.TopologyFault.TheVariants.{BadLine, NotOpen, Missing, Extra}
use Rattle.topology_file.specs.Entries.{is_entry, joins_open, merge_of, merges_of}

-- each entry makes the node that is due, which the first of them does with this one
abbrev pub AreEntries : (due : ℕ) → List (List (List ℕ)) → Type 0
AreEntries due [] = Unit {0}
AreEntries due (entry ∷ more) = (is_entry due entry ≡ true) × AreEntries (suc due) more

-- the lines that aren't blank are the merges of this topology of so many sinks, in order, each with
-- its two nodes in either order
pub record IsTopologyText (sinks : ℕ) (text : List ℕ) (topology : Topology) : Type 0 where
  pub form : AreEntries sinks (entries_of text)
  pub merges : topology.merges ≡ merges_of (entries_of text)
  pub joins_all : IsTopology sinks topology.merges

-- what is wrong with an entry in a line of this number, after these merges: that it is too many
-- comes first, then its form and the node that it makes, and then the nodes that it joins
abbrev pub topology_entry_fault : (sinks number : ℕ) → List Merge → List (List ℕ)
    → Option TopologyFault
topology_entry_fault sinks number merges entry =
    if nat_le sinks (length merges + 1) then Some (Extra number)
    else if not (is_entry (sinks + length merges) entry) then Some (BadLine number)
    else if not (joins_open sinks merges (merge_of entry)) then Some (NotOpen number)
    else None

-- what is wrong with a line after these lines, if anything is: nothing with a blank one
abbrev pub topology_line_fault : (sinks : ℕ) → (earlier : List (List ℕ)) → (line : List ℕ)
    → Option TopologyFault
topology_line_fault sinks earlier line =
    if has_words (words_in line)
    then topology_entry_fault sinks (length earlier + 1) (merges_of (entries_in earlier))
    (words_in line)
    else None

-- the topology of so many sinks that a text tells, or its first fault: where no line has one, that
-- the text ends before all sinks are joined
abbrev pub topology_in : (text : List ℕ) → (sinks : ℕ) → Result Topology TopologyFault
topology_in text sinks = unless_faulty (first_fault (topology_line_fault sinks) text)
    (if length (entries_of text) + 1 == sinks
    then Ok (record { merges = merges_of (entries_of text) })
    else Err (Missing (length (lines_of text) + 1)))
