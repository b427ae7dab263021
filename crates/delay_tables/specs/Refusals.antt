-- Why the reader refuses a delay table: it is no TOML, or it has a flaw, the first in the order in
-- which it is judged.
use Rattle.std.specs.Prelude.{◌≡◌, ℕ, Bool, List, Option, Some, None, Result, MatchResult}
use Rattle.toml.specs.Data.{Members}
use Rattle.cts_model.specs.table.TableFlaws.{TableFlaw, unknown_names}
use Rattle.cts_model.specs.table.TableFlaws as flaws
use Rattle.cts_model.specs.table.TableLaws.{IsFirstDisorder, IsLeastName}
use Rattle.cts_model.specs.table.AcceptedTables.{IsDocument, IsNotToml, HasFlaw}
use Rattle.delay_tables.specs.declared.fault.TechFault.{TechFault}
use Rattle.delay_tables.specs.declared.fault.TechFault.TheVariants.{NotToml, Missing, WrongType, OutOfRange, LeastAboveGreatest, MissingKind, UnknownKey, NoMemory}

-- the fault that bytes have, with a netlist that uses these gate kinds; memory may run out at any
abbrev pub RefusesTable : List Bool → List ℕ → TechFault → Type 0
RefusesTable used bytes NotToml = IsNotToml bytes
RefusesTable used bytes (Missing name) = HasFlaw used bytes (flaws.Missing name)
RefusesTable used bytes (WrongType name) = HasFlaw used bytes (flaws.WrongType name)
RefusesTable used bytes (OutOfRange name) = HasFlaw used bytes (flaws.OutOfRange name)
RefusesTable used bytes (LeastAboveGreatest name) =
    HasFlaw used bytes (flaws.LeastAboveGreatest name)
RefusesTable used bytes (MissingKind kind) = HasFlaw used bytes (flaws.MissingKind kind)
RefusesTable used bytes (UnknownKey name) = HasFlaw used bytes (flaws.UnknownKey name)
RefusesTable used bytes NoMemory = Unit {0}

-- the key is the least name that no key has, and what is out of order is the first that is
abbrev pub DenotesName : List ℕ → TechFault → Type 0
DenotesName bytes (UnknownKey name) = (document : Members) × IsDocument bytes document
    × IsLeastName (unknown_names document) name
DenotesName bytes (LeastAboveGreatest name) = (document : Members) × IsDocument bytes document
    × IsFirstDisorder document name
DenotesName bytes _ = Unit {0}

-- a document with this flaw first has the fault, or memory ran out
abbrev pub IsFaultOf : Option TableFlaw → TechFault → Type 0
IsFaultOf flaw NotToml = ⊥
IsFaultOf flaw (Missing name) = flaw ≡ Some (flaws.Missing name)
IsFaultOf flaw (WrongType name) = flaw ≡ Some (flaws.WrongType name)
IsFaultOf flaw (OutOfRange name) = flaw ≡ Some (flaws.OutOfRange name)
IsFaultOf flaw (LeastAboveGreatest name) = flaw ≡ Some (flaws.LeastAboveGreatest name)
IsFaultOf flaw (MissingKind kind) = flaw ≡ Some (flaws.MissingKind kind)
IsFaultOf flaw (UnknownKey name) = flaw ≡ Some (flaws.UnknownKey name)
IsFaultOf flaw NoMemory = Unit {0}

-- Ok says that there is no flaw, and a fault is the flaw
abbrev pub Judges : {X : Type 0} → Result X TechFault → Option TableFlaw → Type 0
Judges result flaw = MatchResult result (λ _. flaw ≡ None) (IsFaultOf flaw)

-- the bytes are no TOML, or memory ran out
abbrev pub IsUnread : List ℕ → TechFault → Type 0
IsUnread bytes NotToml = IsNotToml bytes
IsUnread bytes NoMemory = Unit {0}
IsUnread bytes _ = ⊥
