-- Accepted delay tables, and the table that each denotes.
use Rattle.std.specs.Prelude.{◌≡◌, ℕ, pos, ◌*ℤ◌, Bool, false, IsTrue, slice_index_or, List, [], ◌∷◌, map, Some, None, IsUtf8, codes}
use Rattle.toml.specs.Data.{Members}
use Rattle.toml.specs.Parse.{parse_document}
use Rattle.cts_model.specs.Types.{Kind, Tech}
use Rattle.cts_model.specs.netlist.Kinds.{is_gate, place_of}
use Rattle.cts_model.specs.timing.Delays.{delay_of}
use Rattle.cts_model.specs.table.TableKeys.{gate_kinds}
use Rattle.cts_model.specs.table.TableValues.{text_at, number_at, numerator_of, denominator_of, gate_delay_at}
use Rattle.cts_model.specs.table.TableFlaws.{TableFlaw, table_flaw}

-- the bytes are a text, and this is the document that TOML reads in it
pub record IsDocument (bytes : List ℕ) (document : Members) : Type 0 where
  pub text : IsUtf8 bytes
  pub parsed : parse_document bytes ≡ Some document

-- the bytes are no text, or TOML reads no document in it
abbrev pub IsNotToml : List ℕ → Type 0
IsNotToml bytes = IsUtf8 bytes → parse_document bytes ≡ None

-- the first thing that is wrong with a table, with a netlist that uses these gate kinds
pub record HasFlaw (used : List Bool) (bytes : List ℕ) (flaw : TableFlaw) : Type 0 where
  pub document : Members
  pub reads : IsDocument bytes document
  pub first : table_flaw used document ≡ Some flaw

-- the bytes are a table in which nothing is wrong
pub record IsDelayTable (used : List Bool) (bytes : List ℕ) : Type 0 where
  pub document : Members
  pub reads : IsDocument bytes document
  pub flawless : table_flaw used document ≡ None

-- the wire's fraction, in lowest terms, is the one that a text writes
abbrev pub DenotesFraction : List ℕ → Tech → Type 0
DenotesFraction text tech =
    tech.wire_num *ℤ pos (denominator_of text) ≡ pos (numerator_of text) *ℤ tech.wire_den

-- the table that a document denotes
pub record DenotesTable (document : Members) (tech : Tech) : Type 0 where
  pub wire : DenotesFraction (text_at (codes "wire" ∷ []) (codes "delay") document) tech
  pub source : tech.source ≡ text_at (codes "source" ∷ []) (codes "place") document
  pub setup : tech.setup ≡ number_at (codes "register" ∷ []) (codes "setup") document
  pub hold : tech.hold ≡ number_at (codes "register" ∷ []) (codes "hold") document
  pub least : tech.least ≡ number_at (codes "register" ∷ []) (codes "least") document
  pub greatest : tech.greatest ≡ number_at (codes "register" ∷ []) (codes "greatest") document
  pub host : tech.host ≡ text_at (codes "host" ∷ []) (codes "place") document
  pub floor : tech.floor ≡ number_at (codes "period" ∷ []) (codes "floor") document
  pub gates : tech.gates ≡ map (gate_delay_at document) gate_kinds

-- the bytes are a table in which nothing is wrong, and tell this one
pub record AcceptsTable (used : List Bool) (bytes : List ℕ) (tech : Tech) : Type 0 where
  pub document : Members
  pub reads : IsDocument bytes document
  pub flawless : table_flaw used document ≡ None
  pub denotes : DenotesTable document tech

-- a table gives each gate kind that a netlist uses
abbrev pub GivesKinds : List Bool → Tech → Type 0
GivesKinds used tech =
    (kind : Kind) → IsTrue (is_gate kind) → IsTrue (slice_index_or used (place_of kind) false)
    → IsTrue (delay_of tech kind).given
