-- The keys of a delay table, which is a TOML document: each table of the document with its keys, in
-- the order in which they are judged. The keys and their ranges are this project's.
use Rattle.std.specs.Prelude.{ℕ, List, [], ◌∷◌, ◌++◌, map, codes}
use Rattle.cts_model.specs.Types.{Kind, And, Nand, Or, Nor, Not, Xor, Xnor, Buff}

-- what stands at a key
pub data Form : Type 0 where
  -- a text `a/b`, or `a` for `a/1`, in digits: whole numbers of 1 to 1,000,000
  Fraction : Form
  -- a text of 1 to 255 bytes
  Node : Form
  -- a whole number, from 0
  UpTo : (most : ℕ) → Form

-- where a key has to be given
pub data Need : Type 0 where
  Always : Need
  -- where its table is there
  InTable : Need
  -- nowhere: 0 stands for it
  Optional : Need

pub record Key : Type 0 where
  pub name : List ℕ
  pub form : Form
  pub need : Need

-- a table of the document: the names that lead to it, and its keys
pub record Section : Type 0 where
  pub way : List (List ℕ)
  pub keys : List Key

-- a key of this name
abbrev pub key : List ℕ → Form → Need → Key
key name form need = record { name = name; form = form; need = need }

-- a table at the top of the document
abbrev pub top_section : List ℕ → List Key → Section
top_section name keys = record { way = name ∷ []; keys = keys }

-- the keys of the table of registers, in ticks
abbrev pub register_keys : List Key
register_keys =
    key (codes "setup") (UpTo 1000000) Always
    ∷ key (codes "hold") (UpTo 1000000) Always
    ∷ key (codes "least") (UpTo 1000000) Always
    ∷ key (codes "greatest") (UpTo 1000000) Always
    ∷ []

-- the tables at the top of the document other than `gate`
unfoldable pub top_sections : List Section
top_sections =
    top_section (codes "wire") (key (codes "delay") Fraction Always ∷ [])
    ∷ top_section (codes "source") (key (codes "place") Node Always ∷ [])
    ∷ top_section (codes "register") register_keys
    ∷ top_section (codes "host") (key (codes "place") Node InTable ∷ [])
    ∷ top_section (codes "period") (key (codes "floor") (UpTo 1000000000) Optional ∷ [])
    ∷ []

-- the keys of the table of a gate kind
abbrev pub gate_keys : List Key
gate_keys =
    key (codes "least") (UpTo 1000000) InTable
    ∷ key (codes "greatest") (UpTo 1000000) InTable
    ∷ key (codes "least_per_input") (UpTo 1000) Optional
    ∷ key (codes "greatest_per_input") (UpTo 1000) Optional
    ∷ []

-- the gate kinds, in the order in which they are judged
abbrev pub gate_kinds : List Kind
gate_kinds = And ∷ Nand ∷ Or ∷ Nor ∷ Not ∷ Xor ∷ Xnor ∷ Buff ∷ []

-- the name of a gate kind
abbrev pub word_of : Kind → List ℕ
word_of And = codes "AND"
word_of Nand = codes "NAND"
word_of Or = codes "OR"
word_of Nor = codes "NOR"
word_of Not = codes "NOT"
word_of Xor = codes "XOR"
word_of Xnor = codes "XNOR"
word_of Buff = codes "BUFF"
word_of _ = []

-- the names that lead to the table of a gate kind
abbrev pub gate_way : Kind → List (List ℕ)
gate_way kind = codes "gate" ∷ word_of kind ∷ []

abbrev pub gate_section : Kind → Section
gate_section kind = record { way = gate_way kind; keys = gate_keys }

-- all tables of keys, in the order in which they are judged
unfoldable pub sections : List Section
sections = top_sections ++ map gate_section gate_kinds

-- the names that the document may have at its top
abbrev pub top_names : List (List ℕ)
top_names =
    codes "wire" ∷ codes "source" ∷ codes "register" ∷ codes "host" ∷ codes "period" ∷ codes "gate"
    ∷ []
