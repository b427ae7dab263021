-- Moves that a text tells.
use Rattle.move_session.proofs.Vocabulary.{◌≡◌, ◌<◌, ℕ, List, [], ◌∷◌, length, Option, Some, None, Result, Ok, Err, refl, ap, ◌∙◌, subst, ℤ, All, cons_option, result_ok, All-nil, All-cons, entries_of, MovesFault, Move, moves_line_fault, move_of, move_to, moves_in, moves_of, register_of}
use Rattle.cts_base.specs.Decimals.{micros_of}
use Rattle.cts_base.specs.LineFormats.{first_fault, unless_faulty}
use Rattle.cts_base.specs.declared.number.NumberFault.{NumberFault}
use Rattle.cts_model.specs.declared.circuit.Circuit.{Circuit}
use Rattle.cts_model.specs.Vocabulary.{register_name, point_from}
use Rattle.name_set.proofs.NameNumbers.{found_below}

-- the move is of a register, to a place whose coordinates words name
pub record IsToldMove (circuit : Circuit) (move : Move) : Type 0 where
  pub within : move.register < length circuit.registers
  pub x : List ℕ
  pub y : List ℕ
  pub x_is : micros_of x ≡ Ok move.at.x
  pub y_is : micros_of y ≡ Ok move.at.y

module _ (circuit : Circuit) where
  -- by its parts
  by_parts : (x y : List ℕ) (register : Option ℕ) (across up : Result ℤ NumberFault) (move : Move)
      → ((found : ℕ) → register ≡ Some found → found < length circuit.registers)
      → micros_of x ≡ across → micros_of y ≡ up
      → move_to register (point_from across up) ≡ Ok move → IsToldMove circuit move
  by_parts x y None across up move below x_is y_is told = cc
  by_parts x y (Some register) (Err fault) up move below x_is y_is told = cc
  by_parts x y (Some register) (Ok across) (Err fault) move below x_is y_is told = cc
  by_parts x y (Some register) (Ok across) (Ok up) move below x_is y_is told =
      let same : record { register = register; at = record { x = across; y = up } } ≡ move =
      cc told in record {
        within = subst (λ m. m.register < length circuit.registers) same (below register refl);
        x = x;
        y = y;
        x_is = x_is ∙ ap (λ m. Ok m.at.x) same;
        y_is = y_is ∙ ap (λ m. Ok m.at.y) same;
      }

  -- the number of a register by its name
  abbrev number_of : List ℕ → Option ℕ
  number_of = register_of circuit

  register_below : (name : List ℕ) (found : ℕ) → number_of name ≡ Some found
      → found < length circuit.registers
  register_below name found is =
      (found_below (register_name circuit) (length circuit.registers) name found is).0

  -- the words of a line tell it
  by_words : (words : List (List ℕ)) (move : Move) → move_of number_of words ≡ Ok move
      → IsToldMove circuit move
  by_words (name ∷ x ∷ y ∷ []) move told =
      by_parts x y (number_of name) (micros_of x) (micros_of y) move (register_below name) refl refl
      told
  by_words words move told = cc

  module _ (Holds : Move → Type 0) (holds : (move : Move) → IsToldMove circuit move → Holds move)
    where
      -- what holds of each told move holds of those of entries
      by_entries : (entries : List (List (List ℕ))) → All Holds (moves_of number_of entries)
      by_entries [] = All-nil Holds
      by_entries (words ∷ entries) = at (move_of number_of words) refl (by_entries entries)
        where
          at : (told : Result Move (ℕ → MovesFault)) → move_of number_of words ≡ told
              → All Holds (moves_of number_of entries)
              → All Holds (cons_option (result_ok told) (moves_of number_of entries))
          at (Ok move) is rest =
              All-cons Holds move (moves_of number_of entries) (holds move (by_words words move is))
              rest
          at (Err fault) is rest = rest

      by_fault : (fault : Option MovesFault) (moves others : List Move)
          → unless_faulty fault (Ok moves) ≡ Ok others → All Holds moves → All Holds others
      by_fault None moves others same each =
          let equal : moves ≡ others = cc same in subst (All Holds) equal each
      by_fault (Some fault) moves others same each = cc

      -- and of those of a text
      pub each_told : (text : List ℕ) (moves : List Move) → moves_in text circuit ≡ Ok moves
          → All Holds moves
      unfolding moves_in
      each_told text moves accepts =
          by_fault (first_fault (moves_line_fault number_of) text) (moves_of number_of
          (entries_of text))
          moves accepts (by_entries (entries_of text))
