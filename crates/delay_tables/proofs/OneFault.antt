-- A table has one fault at the most, and an accepted one has none.
use Rattle.delay_tables.proofs.Vocabulary.{◌≡◌, ◌≢◌, ◌⊎◌, inl, inr, ℕ, Bool, List, Some, None, Result, Ok, Err, IfOk, IfErr, IsErrAnd, IsOkUnless, refl, sym, ap, ◌∙◌, Members, Tech, TableFlaw, table_flaw, IsDocument, IsNotToml, HasFlaw, IsDelayTable, AcceptsTable, TechFault, RefusesTable, IsFaultOf, DenotesName}
use Rattle.cts_model.specs.table.TableFlaws as flaws
use Rattle.delay_tables.specs.declared.fault.TechFault.TheVariants.{NotToml, Missing, WrongType, OutOfRange, LeastAboveGreatest, MissingKind, UnknownKey, NoMemory}
use Rattle.cts_model.proofs.TableLemmas.{disorder_of_table, unknown_of_table}

-- the fault of a flaw
abbrev pub fault_of : TableFlaw → TechFault
fault_of (flaws.Missing name) = Missing name
fault_of (flaws.WrongType name) = WrongType name
fault_of (flaws.OutOfRange name) = OutOfRange name
fault_of (flaws.LeastAboveGreatest name) = LeastAboveGreatest name
fault_of (flaws.MissingKind kind) = MissingKind kind
fault_of (flaws.UnknownKey name) = UnknownKey name

-- a document whose first flaw is that of a fault is refused with it
pub refuses_flaw : (used : List Bool) (bytes : List ℕ) (document : Members) (fault : TechFault)
    → IsDocument bytes document → IsFaultOf (table_flaw used document) fault
    → RefusesTable used bytes fault
refuses_flaw used bytes document NotToml reads cause = absurd cause
refuses_flaw used bytes document (Missing name) reads cause =
    record { document = document; reads = reads; first = cause }
refuses_flaw used bytes document (WrongType name) reads cause =
    record { document = document; reads = reads; first = cause }
refuses_flaw used bytes document (OutOfRange name) reads cause =
    record { document = document; reads = reads; first = cause }
refuses_flaw used bytes document (LeastAboveGreatest name) reads cause =
    record { document = document; reads = reads; first = cause }
refuses_flaw used bytes document (MissingKind kind) reads cause =
    record { document = document; reads = reads; first = cause }
refuses_flaw used bytes document (UnknownKey name) reads cause =
    record { document = document; reads = reads; first = cause }
refuses_flaw used bytes document NoMemory reads cause = tt

-- why bytes are refused: they are no TOML, they have a flaw, or memory ran out
data Cause (used : List Bool) (bytes : List ℕ) (fault : TechFault) : Type 0 where
  not_toml : fault ≡ NotToml → IsNotToml bytes → Cause used bytes fault
  flawed : (flaw : TableFlaw) → fault ≡ fault_of flaw → HasFlaw used bytes flaw
      → Cause used bytes fault
  memory : fault ≡ NoMemory → Cause used bytes fault

cause_of : (used : List Bool) (bytes : List ℕ) (fault : TechFault) → RefusesTable used bytes fault
    → Cause used bytes fault
cause_of used bytes NotToml refuses = not_toml refl refuses
cause_of used bytes (Missing name) refuses = flawed (flaws.Missing name) refl refuses
cause_of used bytes (WrongType name) refuses = flawed (flaws.WrongType name) refl refuses
cause_of used bytes (OutOfRange name) refuses = flawed (flaws.OutOfRange name) refl refuses
cause_of used bytes (LeastAboveGreatest name) refuses =
    flawed (flaws.LeastAboveGreatest name) refl refuses
cause_of used bytes (MissingKind kind) refuses = flawed (flaws.MissingKind kind) refl refuses
cause_of used bytes (UnknownKey name) refuses = flawed (flaws.UnknownKey name) refl refuses
cause_of used bytes NoMemory refuses = memory refl

unwrapped : {X : Type 0} (x y : X) → Some x ≡ Some y → x ≡ y
unwrapped x y same = cc same

-- bytes are one document
pub one_document : (bytes : List ℕ) (document other : Members) → IsDocument bytes document
    → IsDocument bytes other → document ≡ other
one_document bytes document other reads reads_other =
    unwrapped document other (sym reads.parsed ∙ reads_other.parsed)

not_both : (bytes : List ℕ) (document : Members) → IsDocument bytes document → IsNotToml bytes → ⊥
not_both bytes document reads none = absurd (apart (sym (none reads.text) ∙ reads.parsed)) where
  apart : None ≡ Some document → ⊥
  apart same = cc same

-- a document has one first flaw
one_flaw : (used : List Bool) (bytes : List ℕ) (flaw other : TableFlaw) → HasFlaw used bytes flaw
    → HasFlaw used bytes other → flaw ≡ other
one_flaw used bytes flaw other has has_other =
    unwrapped flaw other
    (sym has.first ∙ (ap (table_flaw used)
    (one_document bytes has.document has_other.document has.reads has_other.reads)
    ∙ has_other.first))

flaw_and_none : (used : List Bool) (bytes : List ℕ) (flaw : TableFlaw) → IsDelayTable used bytes
    → HasFlaw used bytes flaw → ⊥
flaw_and_none used bytes flaw table has =
    apart (sym table.flawless
    ∙ (ap (table_flaw used) (one_document bytes table.document has.document table.reads has.reads)
    ∙ has.first)) where
      apart : None ≡ Some flaw → ⊥
      apart same = cc same

-- an accepted table has no fault
no_fault : (used : List Bool) (bytes : List ℕ) (fault : TechFault) → IsDelayTable used bytes
    → Cause used bytes fault → fault ≡ NoMemory
no_fault used bytes fault table (not_toml is none) =
    absurd (not_both bytes table.document table.reads none)
no_fault used bytes fault table (flawed flaw is has) =
    absurd (flaw_and_none used bytes flaw table has)
no_fault used bytes fault table (memory is) = is

one_fault : (used : List Bool) (bytes : List ℕ) (fault found : TechFault) → fault ≢ NoMemory
    → Cause used bytes fault → Cause used bytes found → (found ≡ fault) ⊎ (found ≡ NoMemory)
one_fault used bytes fault found named (memory is) cause = absurd (named is)
one_fault used bytes fault found named (not_toml is none) (memory found_is) = inr found_is
one_fault used bytes fault found named (flawed flaw is has) (memory found_is) = inr found_is
one_fault used bytes fault found named (not_toml is none) (not_toml found_is found_none) =
    inl (found_is ∙ sym is)
one_fault used bytes fault found named (not_toml is none) (flawed flaw found_is has) =
    absurd (not_both bytes has.document has.reads none)
one_fault used bytes fault found named (flawed flaw is has) (not_toml found_is none) =
    absurd (not_both bytes has.document has.reads none)
one_fault used bytes fault found named (flawed flaw is has) (flawed other found_is has_other) =
    inl (found_is ∙ (ap fault_of (one_flaw used bytes other flaw has_other has) ∙ sym is))

-- an answer that names only faults that are there accepts each table
pub accepts_each : (used : List Bool) (bytes : List ℕ) (result : Result Tech TechFault)
    → IfErr result (RefusesTable used bytes) → IsDelayTable used bytes → IsOkUnless result NoMemory
accepts_each used bytes (Ok tech) refused table = tt
accepts_each used bytes (Err fault) refused table =
    no_fault used bytes fault table (cause_of used bytes fault refused)

-- and names each fault, if it accepts only tables
pub names_each : (used : List Bool) (bytes : List ℕ) (result : Result Tech TechFault)
    → IfOk result (AcceptsTable used bytes) → IfErr result (RefusesTable used bytes)
    → (fault : TechFault) → fault ≢ NoMemory → RefusesTable used bytes fault
    → IsErrAnd result (λ found. (found ≡ fault) ⊎ (found ≡ NoMemory))
names_each used bytes (Ok tech) accepted refused fault named refuses =
    named (no_fault used bytes fault
    (record { document = accepted.document; reads = accepted.reads; flawless = accepted.flawless })
    (cause_of used bytes fault refuses))
names_each used bytes (Err found) accepted refused fault named refuses =
    one_fault used bytes fault found named (cause_of used bytes fault refuses)
    (cause_of used bytes found refused)

-- a delay table has no fault but want of memory
pub not_refused : (used : List Bool) (bytes : List ℕ) (fault : TechFault) → IsDelayTable used bytes
    → RefusesTable used bytes fault → fault ≡ NoMemory
not_refused used bytes fault table refuses =
    no_fault used bytes fault table (cause_of used bytes fault refuses)

-- a fault gives the least unknown key, and the first that is out of order
pub names_denoted : (used : List Bool) (bytes : List ℕ) (fault : TechFault)
    → RefusesTable used bytes fault → DenotesName bytes fault
names_denoted used bytes NotToml has = tt
names_denoted used bytes (Missing name) has = tt
names_denoted used bytes (WrongType name) has = tt
names_denoted used bytes (OutOfRange name) has = tt
names_denoted used bytes (LeastAboveGreatest name) has =
    (has.document, has.reads, disorder_of_table used has.document name has.first)
names_denoted used bytes (MissingKind kind) has = tt
names_denoted used bytes (UnknownKey name) has =
    (has.document, has.reads, unknown_of_table used has.document name has.first)
names_denoted used bytes NoMemory has = tt
