-- What a delay table gives at its keys.
use Rattle.std.specs.Prelude.{ℕ, ◌+◌, nat_le, ℤ, pos, negsuc, Bool, false, ◌&&◌, List, [], ◌∷◌, ◌++◌, length, take, drop, position, Option, Some, is_some, unwrap_or, codes}
use Rattle.std.specs.Option.{option_and_then, option_map_or}
use Rattle.std.specs.List.{flat_map}
use Rattle.std.specs.Str.Parse.{digits_value}
use Rattle.toml.specs.Data.{Data, Members, get_member, as_str, as_integer, as_table}
use Rattle.cts_model.specs.Types.{Kind, GateDelay}
pub use Rattle.cts_base.specs.Decimals.{is_numeral}
pub use Rattle.cts_base.specs.NumberTexts.{is_slash}
use Rattle.cts_model.specs.table.TableKeys.{Form, Fraction, Node, UpTo, gate_way}

-- a name after those of the tables that lead to it, joined by dots
abbrev pub dotted : List (List ℕ) → List ℕ → List ℕ
dotted way name = flat_map (λ table. table ++ codes ".") way ++ name

-- the table that some names lead to
abbrev pub table_at : List (List ℕ) → Members → Option Members
table_at [] document = Some document
table_at (name ∷ way) document =
    option_and_then (table_at way) (option_and_then as_table (get_member name document))

-- what stands at a name in that table
abbrev pub value_at : List (List ℕ) → List ℕ → Members → Option Data
value_at way name document = option_and_then (get_member name) (table_at way document)

-- the text there; it is empty where there is none
abbrev pub text_at : List (List ℕ) → List ℕ → Members → List ℕ
text_at way name document =
    unwrap_or (option_and_then as_str (value_at way name document)) []

-- the whole number there, or 0
abbrev pub number_at : List (List ℕ) → List ℕ → Members → ℤ
number_at way name document =
    unwrap_or (option_and_then as_integer (value_at way name document)) (pos 0)

-- the texts before and after the first slash; where there is none, 1 stands after it
abbrev pub numerator_text : List ℕ → List ℕ
numerator_text text =
    option_map_or (λ slash. take slash text) (position is_slash text) text

abbrev pub denominator_text : List ℕ → List ℕ
denominator_text text =
    option_map_or (λ slash. drop (slash + 1) text) (position is_slash text) (codes "1")

abbrev pub numerator_of : List ℕ → ℕ
numerator_of text = digits_value 10 (numerator_text text)

abbrev pub denominator_of : List ℕ → ℕ
denominator_of text = digits_value 10 (denominator_text text)

abbrev pub is_fraction : List ℕ → Bool
is_fraction text = is_numeral (numerator_text text) && is_numeral (denominator_text text)

-- from the one number to the other
abbrev pub is_between : ℕ → ℕ → ℕ → Bool
is_between low high number = nat_le low number && nat_le number high

abbrev pub is_up_to : ℕ → ℤ → Bool
is_up_to most (pos number) = nat_le number most
is_up_to most (negsuc number) = false

-- a value is of the type and form that a key has
abbrev pub has_form : Form → Data → Bool
has_form Fraction value = option_map_or is_fraction (as_str value) false
has_form Node value = is_some (as_str value)
has_form (UpTo most) value = is_some (as_integer value)

-- a fraction has both numbers from 1 to 1,000,000
abbrev pub is_small_fraction : List ℕ → Bool
is_small_fraction text =
    is_between 1 1000000 (numerator_of text) && is_between 1 1000000 (denominator_of text)

-- a value of that form is in the range of the key: a name has 1 to 255 bytes
abbrev pub is_in_range : Form → Data → Bool
is_in_range Fraction value = option_map_or is_small_fraction (as_str value) false
is_in_range Node value = option_map_or (λ name. is_between 1 255 (length name)) (as_str value) false
is_in_range (UpTo most) value = option_map_or (is_up_to most) (as_integer value) false

-- what the document says of a gate kind
abbrev pub gate_delay_at : Members → Kind → GateDelay
gate_delay_at document kind = record {
  given = is_some (table_at (gate_way kind) document);
  least = number_at (gate_way kind) (codes "least") document;
  greatest = number_at (gate_way kind) (codes "greatest") document;
  least_per_input = number_at (gate_way kind) (codes "least_per_input") document;
  greatest_per_input = number_at (gate_way kind) (codes "greatest_per_input") document;
}
