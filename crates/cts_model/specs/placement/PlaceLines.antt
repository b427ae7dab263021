-- The lines of a placement in the Bookshelf format (.pl), with this project's choice of spellings.
-- What a line says is determined by its words, its comment cut off.
use Rattle.std.specs.Prelude.{ℕ, Bool, true, false, not, ◌==◌, ◌&&◌, ◌||◌, List, [], ◌∷◌, length, take, drop, Option, Some, None, if◌then◌else◌, codes}
use Rattle.std.specs.Option.{option_map}
use Rattle.std.specs.List.{prefix_len, list_any}
use Rattle.std.specs.Str.{bytes_eq, str_eq_ignore_ascii_case}
use Rattle.cts_base.specs.Words.{is_not_empty}
use Rattle.cts_model.specs.text.Entries.{has_words, words_in}

-- a node's line: its name and its coordinates as they are written
pub record Node : Type 0 where
  pub name : List ℕ
  pub x : List ℕ
  pub y : List ℕ

-- what a line is
pub data Entry : Type 0 where
  Blank : Entry
  Header : Entry
  Stands : (node : Node) → Entry

-- the word has that byte before
abbrev pub begins_with : ℕ → List ℕ → Bool
begins_with byte [] = false
begins_with byte (first ∷ rest) = first == byte

-- a compass point, rotated over or not, in any case of its letters
abbrev pub is_orientation : List ℕ → Bool
is_orientation word =
    str_eq_ignore_ascii_case word (codes "N") || str_eq_ignore_ascii_case word (codes "S")
    || str_eq_ignore_ascii_case word (codes "E") || str_eq_ignore_ascii_case word (codes "W")
    || str_eq_ignore_ascii_case word (codes "FN") || str_eq_ignore_ascii_case word (codes "FS")
    || str_eq_ignore_ascii_case word (codes "FE") || str_eq_ignore_ascii_case word (codes "FW")

-- what is left of a word, if anything is, and the words after it
abbrev pub part_and : List ℕ → List (List ℕ) → List (List ℕ)
part_and part words = if is_not_empty part then part ∷ words else words

-- nothing, or one word that begins with `/`
abbrev pub is_remark : List (List ℕ) → Bool
is_remark [] = true
is_remark (word ∷ rest) = begins_with 47 word && (length rest == 0)

-- an orientation, and a remark if wanted
abbrev pub is_oriented : List (List ℕ) → Bool
is_oriented [] = false
is_oriented (word ∷ rest) = is_orientation word && is_remark rest

-- what may stand after y: a colon with an orientation if wanted, and a remark if wanted
abbrev pub is_tail : List (List ℕ) → Bool
is_tail [] = true
is_tail (word ∷ rest) =
    if begins_with 58 word then is_oriented (part_and (drop 1 word) rest)
    else is_remark (word ∷ rest)

-- y is as much of its word as stands before the colon of an orientation
abbrev pub y_len : List ℕ → ℕ
y_len word = prefix_len (λ byte. not (byte == 58)) word

-- the node of a line, by its name, its x and the words after x
abbrev pub node_of : (name x : List ℕ) → List (List ℕ) → Option Node
node_of name x [] = None
node_of name x (word ∷ rest) =
    let y = take (y_len word) word in
    if is_not_empty y && is_tail (part_and (drop (y_len word) word) rest)
    then Some (record { name = name; x = x; y = y }) else None

-- the words that a header begins with
abbrev pub is_header : (first second : List ℕ) → Bool
is_header first second = bytes_eq first (codes "UCLA") && bytes_eq second (codes "pl")

-- what a line with these words is; only the first line that isn't blank may be the header
abbrev pub entry_of_words : (begun : Bool) → List (List ℕ) → Option Entry
entry_of_words begun [] = Some Blank
entry_of_words begun (first ∷ []) = None
entry_of_words begun (first ∷ second ∷ rest) =
    if not begun && is_header first second then Some Header
    else option_map Stands (node_of first second rest)

-- one of these lines isn't blank
abbrev pub has_begun : List (List ℕ) → Bool
has_begun lines = list_any (λ line. has_words (words_in line)) lines

-- what a line is after these lines, if it has a form
abbrev pub entry_after : (earlier : List (List ℕ)) → List ℕ → Option Entry
entry_after earlier line = entry_of_words (has_begun earlier) (words_in line)
