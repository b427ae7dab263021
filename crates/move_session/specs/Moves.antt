-- Texts of moves, and what each tells. A line that isn't blank has three words, a register's name
-- and the two coordinates of the place where it goes. The form is this project's choice; comments
-- and words are those of the ISCAS'89 and Bookshelf formats.
use Rattle.std.specs.Prelude.{◌+◌, ℕ, nat_lt, List, [], ◌∷◌, length, filter_map, Option, Some, None, Result, Ok, Err, if◌then◌else◌}
use Rattle.std.specs.Option.{option_or}
use Rattle.std.specs.Result.{result_ok, result_err}
use Rattle.cts_base.specs.LineFormats.{first_fault, unless_faulty}
use Rattle.cts_base.specs.declared.number.NumberFault.{NumberFault}
use Rattle.cts_model.specs.declared.circuit.Circuit.{Circuit}
use Rattle.cts_model.specs.declared.place.Point.{Point}
use Rattle.cts_model.specs.Vocabulary.{number_of, point_of, entries_in, entries_of, words_in}
use Rattle.name_set.specs.RegisterNames.{register_names}
use Rattle.move_session.specs.declared.fault.MovesFault.{MovesFault}
use Rattle.move_session.specs.declared.fault.MovesFault.TheVariants.{BadLine, UnknownRegister, BadNumber, TooMany}
use Rattle.move_session.specs.declared.moves.Move.{Move}

-- the register of that name; the host's is `(host)`
abbrev pub register_of : Circuit → (name : List ℕ) → Option ℕ
register_of circuit = number_of (register_names circuit)

-- a register's move to a place, or what is wrong with the line of a number; that no register has
-- the name is judged before the place
abbrev pub move_to : (register : Option ℕ) → (place : Result Point NumberFault)
    → Result Move (ℕ → MovesFault)
move_to None place = Err UnknownRegister
move_to (Some register) (Ok at) = Ok (record { register = register; at = at })
move_to (Some register) (Err fault) = Err (λ number. BadNumber number fault)

-- what the words of a line tell, with the number of each register by its name
abbrev pub move_of : (number_of : List ℕ → Option ℕ) → (words : List (List ℕ))
    → Result Move (ℕ → MovesFault)
move_of number_of (name ∷ x ∷ y ∷ []) = move_to (number_of name) (point_of x y)
move_of number_of _ = Err BadLine

-- the moves that entries tell, in order
abbrev pub moves_of : (number_of : List ℕ → Option ℕ) → (entries : List (List (List ℕ)))
    → List Move
moves_of number_of entries = filter_map (λ words. result_ok (move_of number_of words)) entries

-- what the words of the line of this number tell
abbrev pub told_at : (number : ℕ) → Result Move (ℕ → MovesFault) → Result Move MovesFault
told_at number (Ok move) = Ok move
told_at number (Err fault) = Err (fault number)

-- what is wrong with the line of this number, after so many that aren't blank: that it is the
-- 10,001st is judged last
abbrev pub moves_entry_fault : (number_of : List ℕ → Option ℕ) → (number entries : ℕ)
    → (words : List (List ℕ)) → Option MovesFault
moves_entry_fault number_of number entries [] = None
moves_entry_fault number_of number entries (word ∷ words) =
    option_or (result_err (told_at number (move_of number_of (word ∷ words))))
    (if nat_lt entries 10000 then None else Some (TooMany number))

-- what is wrong with a line after the lines before it
abbrev pub moves_line_fault : (number_of : List ℕ → Option ℕ) → (earlier : List (List ℕ))
    → (line : List ℕ) → Option MovesFault
moves_line_fault number_of earlier line =
    moves_entry_fault number_of (length earlier + 1) (length (entries_in earlier)) (words_in line)

-- the moves of a circuit's registers in a text, or its first fault
unfoldable pub moves_in : (text : List ℕ) → Circuit → Result (List Move) MovesFault
moves_in text circuit = unless_faulty (first_fault (moves_line_fault (register_of circuit)) text)
    (Ok (moves_of (register_of circuit) (entries_of text)))
