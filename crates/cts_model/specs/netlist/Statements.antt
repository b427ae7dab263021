-- The statements of the ISCAS'89 .bench format: `INPUT(name)`, `OUTPUT(name)` and
-- `name = KIND(names)`.
use Rattle.std.specs.Prelude.{ℕ, List, [], ◌∷◌, Option, Some, None, if◌then◌else◌, codes}
use Rattle.std.specs.Option.{option_map}
use Rattle.std.specs.Str.{str_eq_ignore_ascii_case}
use Rattle.cts_base.specs.Words.{before_hash}
use Rattle.cts_model.specs.Types.{Kind}
use Rattle.cts_model.specs.declared.kind.Kind.TheVariants as kinds
use Rattle.cts_model.specs.netlist.Kinds.{kind_of}
use Rattle.cts_model.specs.text.Tokens.{Token, Word, Open, Close, Comma, Equals, tokens_of}

-- what a line says
pub data Statement : Type 0 where
  Blank : Statement
  Input : (name : List ℕ) → Statement
  Output : (name : List ℕ) → Statement
  Assign : (name word : List ℕ) (inputs : List (List ℕ)) → Statement

-- INPUT and OUTPUT may be written in any ASCII case
abbrev pub declaration_of : List ℕ → List ℕ → Option Statement
declaration_of word name =
    if str_eq_ignore_ascii_case word (codes "INPUT") then Some (Input name)
    else if str_eq_ignore_ascii_case word (codes "OUTPUT") then Some (Output name)
    else None

-- after a name in parentheses: more of them after commas, and then the end of the line
abbrev pub more_inputs_of : List Token → Option (List (List ℕ))
more_inputs_of (Close ∷ []) = Some []
more_inputs_of (Comma ∷ Word name ∷ rest) = option_map (λ names. name ∷ names) (more_inputs_of rest)
more_inputs_of _ = None

-- after an opening parenthesis: names between commas, or none
abbrev pub inputs_of : List Token → Option (List (List ℕ))
inputs_of (Close ∷ []) = Some []
inputs_of (Word name ∷ rest) = option_map (λ names. name ∷ names) (more_inputs_of rest)
inputs_of _ = None

-- the statement that tokens make, if they have one of the forms
abbrev pub form_of : List Token → Option Statement
form_of [] = Some Blank
form_of (Word word ∷ Open ∷ Word name ∷ Close ∷ []) = declaration_of word name
form_of (Word name ∷ Equals ∷ Word word ∷ Open ∷ rest) =
    option_map (λ inputs. Assign name word inputs) (inputs_of rest)
form_of _ = None

-- the statement of a line, its comment left out
abbrev pub statement_of : List ℕ → Option Statement
statement_of line = form_of (tokens_of (before_hash line))

-- what a line defines: a name, how it is made, and the names that it reads
pub record Definition : Type 0 where
  pub name : List ℕ
  pub kind : Kind
  pub inputs : List (List ℕ)

abbrev pub definition_of : Statement → Option Definition
definition_of (Input name) = Some (record { name = name; kind = kinds.Input; inputs = [] })
definition_of (Assign name word inputs) =
    option_map (λ kind. record { name = name; kind = kind; inputs = inputs }) (kind_of word)
definition_of _ = None

-- the names that a line uses, in order
abbrev pub uses_of : Statement → List (List ℕ)
uses_of (Output name) = name ∷ []
uses_of (Assign name word inputs) = inputs
uses_of _ = []

-- the names on a line, in order
abbrev pub names_of : Statement → List (List ℕ)
names_of (Input name) = name ∷ []
names_of (Output name) = name ∷ []
names_of (Assign name word inputs) = name ∷ inputs
names_of Blank = []

-- what an OUTPUT line mentions
abbrev pub mention_of : Statement → Option (List ℕ)
mention_of (Output name) = Some name
mention_of _ = None
