-- The statements and definitions of lines, and how one more line adds to them.
use Rattle.bench_reader.proofs.Vocabulary.{◌≡◌, ℕ, List, [], ◌∷◌, ◌++◌, Some, None, All, ap, ◌∙◌, arith, filter_map, cons_option, All-contains, filter_map-append, Contains-append_right, Contains-get_or, Statement, Definition, statement_of, definition_of, statements_in, definitions_in, filter_map_push_none, filter_map_push_some}

module _ (earlier : List (List ℕ)) (line : List ℕ) {statement : Statement} where
  -- one more line, with its statement
  pub statements_push : statement_of line ≡ Some statement
      → statements_in (earlier ++ line ∷ []) ≡ statements_in earlier ++ statement ∷ []
  statements_push form = filter_map_push_some statement_of earlier line statement form

  -- a line that defines nothing
  pub definitions_push_none : statement_of line ≡ Some statement → definition_of statement ≡ None
      → definitions_in (earlier ++ line ∷ []) ≡ definitions_in earlier
  definitions_push_none form none = ap (filter_map definition_of) (statements_push form)
      ∙ filter_map_push_none definition_of (statements_in earlier) statement none

  -- a line with a definition
  pub definitions_push_some : {definition : Definition} → statement_of line ≡ Some statement
      → definition_of statement ≡ Some definition
      → definitions_in (earlier ++ line ∷ []) ≡ definitions_in earlier ++ definition ∷ []
  definitions_push_some {definition} form some =
      ap (filter_map definition_of) (statements_push form)
      ∙ filter_map_push_some definition_of (statements_in earlier) statement definition some

-- a line's statement has P, if each statement does
pub statement_at : (P : Statement → Type 0) (earlier : List (List ℕ)) (line : List ℕ)
    (later : List (List ℕ)) (statement : Statement) → statement_of line ≡ Some statement
    → All P (statements_in (earlier ++ line ∷ later)) → P statement
statement_at P earlier line later statement form all =
    let parts : statements_in (earlier ++ line ∷ later)
    ≡ statements_in earlier ++ statement ∷ statements_in later =
    filter_map-append statement_of earlier (line ∷ later)
    ∙ ap (λ o. statements_in earlier ++ cons_option o (statements_in later)) form in
    All-contains P _ statement all
    (rw parts (Contains-append_right (statements_in earlier) (statement ∷ statements_in later)
    statement (Contains-get_or (statement ∷ statements_in later) 0 statement (omega arith))))
