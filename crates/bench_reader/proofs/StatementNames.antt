-- The names of a statement are names: one or more of a name's bytes.
use Rattle.bench_reader.proofs.Vocabulary.{◌≡◌, ℕ, nat_eq, if◌then◌else◌, codes, Bool, true, false, ◌&&◌, List, [], ◌∷◌, Option, Some, None, IfSome, IsTrue, refl, ap, subst, arith, list_all, option_map, str_eq_ignore_ascii_case, same_Some, nat_tests, is_blank, before_hash, Kind, kind_of, is_name_byte, is_name, is_short, Token, Word, Open, Close, Comma, Equals, Stray, tokens_of, mark_of, onto_word, begins_with_name_byte, Statement, Blank, Input, Output, Assign, Definition, statement_of, form_of, inputs_of, more_inputs_of, declaration_of, definition_of, names_of}

-- each of these is a name
abbrev AreNames : List (List ℕ) → Type 0
AreNames [] = Unit {0}
AreNames (name ∷ names) = IsTrue (is_name name) × AreNames names

-- the words among tokens are names
abbrev HasNames : List Token → Type 0
HasNames [] = Unit {0}
HasNames (Word bytes ∷ tokens) = IsTrue (is_name bytes) × HasNames tokens
HasNames (_ ∷ tokens) = HasNames tokens

-- a byte of a name is one by itself
name_of_byte : (byte : ℕ) → is_name_byte byte ≡ true → IsTrue (is_name (byte ∷ []))
name_of_byte byte here = rw here refl

-- and before a name
name_after_byte : (byte : ℕ) (bytes : List ℕ) → is_name_byte byte ≡ true → IsTrue (is_name bytes)
    → IsTrue (is_name (byte ∷ bytes))
name_after_byte byte [] here name = rw here refl
name_after_byte byte (next ∷ bytes) here name = grind (arith, nat_tests)

-- so a byte put onto a word leaves it a name
onto_word_names : (byte : ℕ) (joined : Bool) (tokens : List Token) → is_name_byte byte ≡ true
    → HasNames tokens → HasNames (onto_word byte joined tokens)
onto_word_names byte true (Word bytes ∷ tokens) here names =
    (name_after_byte byte bytes here names.0, names.1)
onto_word_names byte _ tokens here names = (name_of_byte byte here, names)

-- a mark is no word
mark_names : (byte : ℕ) (tokens : List Token) → HasNames tokens → HasNames (mark_of byte ∷ tokens)
mark_names byte tokens names =
    at (nat_eq byte 40) (nat_eq byte 41) (nat_eq byte 44) (nat_eq byte 61)
  where
    at : (a b c d : Bool)
        → HasNames ((if a then Open else if b then Close else if c then Comma else if d then Equals
        else Stray) ∷ tokens)
    at true b c d = names
    at false true c d = names
    at false false true d = names
    at false false false true = names
    at false false false false = names

-- the words of a line are names
tokens_names : (line : List ℕ) → HasNames (tokens_of line)
tokens_names [] = tt
tokens_names (byte ∷ line) = at (is_name_byte byte) (is_blank byte) refl (tokens_names line)
  where
    at : (n b : Bool) → is_name_byte byte ≡ n → HasNames (tokens_of line)
        → HasNames (if n then onto_word byte (begins_with_name_byte line)
        (tokens_of line) else if b then tokens_of line else mark_of byte ∷ tokens_of line)
    at true b here names =
        onto_word_names byte (begins_with_name_byte line) (tokens_of line) here names
    at false true here names = names
    at false false here names = mark_names byte (tokens_of line) names

-- a name before more
name_and_more : (name : List ℕ) → IsTrue (is_name name) → (more : Option (List (List ℕ)))
    → IfSome more AreNames → IfSome (option_map (λ names. name ∷ names) more) AreNames
name_and_more name here None names = tt
name_and_more name here (Some more) names = (here, names)

-- the inputs after a comma are names
more_inputs_names : (tokens : List Token) → HasNames tokens
    → IfSome (more_inputs_of tokens) AreNames
more_inputs_names (Close ∷ []) names = tt
more_inputs_names (Comma ∷ Word name ∷ rest) names =
    name_and_more name names.0 (more_inputs_of rest) (more_inputs_names rest names.1)
more_inputs_names _ names = tt

-- the inputs in parentheses are names
inputs_names : (tokens : List Token) → HasNames tokens → IfSome (inputs_of tokens) AreNames
inputs_names (Close ∷ []) names = tt
inputs_names (Word name ∷ rest) names =
    name_and_more name names.0 (more_inputs_of rest) (more_inputs_names rest names.1)
inputs_names _ names = tt

-- the name that a line declares is a name
declaration_names : (word name : List ℕ) → IsTrue (is_name name)
    → IfSome (declaration_of word name) (λ statement. AreNames (names_of statement))
declaration_names word name here = at (str_eq_ignore_ascii_case word (codes "INPUT"))
    (str_eq_ignore_ascii_case word (codes "OUTPUT"))
  where
    at : (a b : Bool)
        → IfSome (if a then Some (Input name) else if b then Some (Output name) else None)
        (λ statement. AreNames (names_of statement))
    at true b = (here, tt)
    at false true = (here, tt)
    at false false = tt

-- the names of a statement are names
form_names : (tokens : List Token) → HasNames tokens
    → IfSome (form_of tokens) (λ statement. AreNames (names_of statement))
form_names [] names = tt
form_names (Word word ∷ Open ∷ Word name ∷ Close ∷ []) names = declaration_names word name names.1.0
form_names (Word name ∷ Equals ∷ Word word ∷ Open ∷ rest) names =
    at (inputs_of rest) (inputs_names rest names.1.1)
  where
    at : (o : Option (List (List ℕ))) → IfSome o AreNames
        → IfSome (option_map (λ inputs. Assign name word inputs) o)
        (λ statement. AreNames (names_of statement))
    at None inputs = tt
    at (Some inputs) rest = (names.0, rest)
form_names _ names = tt

-- the name that a line defines is one, and is short
pub defined_name : (line : List ℕ) (statement : Statement) (definition : Definition)
    → statement_of line ≡ Some statement → definition_of statement ≡ Some definition
    → list_all is_short (names_of statement) ≡ true
    → IsTrue (is_name definition.name && is_short definition.name)
defined_name line statement definition form some short =
    let names : IfSome (statement_of line) (λ s. AreNames (names_of s)) =
    form_names (tokens_of (before_hash line)) (tokens_names (before_hash line)) in
    let named : AreNames (names_of statement) =
    subst (λ o. IfSome o (λ s. AreNames (names_of s))) form names in
    at statement some named short
  where
    -- a name that is short
    both : (name : List ℕ) → IsTrue (is_name name) → IsTrue (is_short name)
        → IsTrue (is_name name && is_short name)
    both name named short = rw (named, short) refl

    -- the first of short names is short
    first : (name : List ℕ) (names : List (List ℕ)) → list_all is_short (name ∷ names) ≡ true
        → IsTrue (is_short name)
    first name names short = grind (arith, nat_tests)

    -- whatever its kind, an assignment defines its first name
    kinded : (name : List ℕ) (inputs : List (List ℕ)) (o : Option Kind)
        → option_map (λ kind. record { name = name; kind = kind; inputs = inputs }) o
        ≡ Some definition → name ≡ definition.name
    kinded name inputs None some = cc
    kinded name inputs (Some kind) some = ap (λ d. d.name) (same_Some _ definition some)

    at : (s : Statement) → definition_of s ≡ Some definition → AreNames (names_of s)
        → list_all is_short (names_of s) ≡ true
        → IsTrue (is_name definition.name && is_short definition.name)
    at Blank some named short = cc
    at (Output name) some named short = cc
    at (Input name) some named short = subst (λ n. IsTrue (is_name n && is_short n))
        (ap (λ d. d.name) (same_Some _ definition some)) (both name named.0 (first name [] short))
    at (Assign name word inputs) some named short = subst (λ n. IsTrue (is_name n && is_short n))
        (kinded name inputs (kind_of word) some) (both name named.0 (first name inputs short))
