-- What is taken in from one more line.
use Rattle.move_session.proofs.Vocabulary.{◌≡◌, ◌<◌, ◌+◌, ℕ, true, List, [], ◌∷◌, ◌++◌, length, Option, Some, None, Result, Ok, Err, sym, ap, ◌∙◌, arith, cond, nat_lt, cons_option, result_err, result_ok, length_push, filter_map-append, entries_in, has_words, words_in, MovesFault, Move, moves_entry_fault, moves_line_fault, move_of, moves_of, told_at}
use Rattle.std.specs.Option.{option_or}
use Rattle.std.proofs.lemmas.Bool.Decides.{nat_tests}
use Rattle.cts_model.specs.Vocabulary.{number_of}
use Rattle.cts_model.proofs.EntryLemmas.{entries_round, written}
use Rattle.move_session.specs.declared.fault.MovesFault.TheVariants.{TooMany}
use Rattle.move_session.specs.declared.moving.Moving.{Moving}
use Rattle.move_session.specs.Taken.{HasTaken}

-- a move is told whatever the line's number
told_move : (number : ℕ) (move : Move) (told : Result Move (ℕ → MovesFault))
    → told_at number told ≡ Ok move → result_ok told ≡ Some move
told_move number move (Ok own) same = ap result_ok same
told_move number move (Err fault) same = ap result_ok same

module _ (start old : Moving) (earlier : List (List ℕ)) (line : List ℕ) (name : List ℕ)
    (words : List (List ℕ)) (number : ℕ) (move : Move) (has : HasTaken start old earlier)
    (number_is : number ≡ length earlier + 1) (read : words_in line ≡ name ∷ words)
    (told : Ok move ≡ told_at number (move_of (number_of old.names) (name ∷ words))) where
  -- the numbers of the names of the start
  abbrev named : List ℕ → Option ℕ
  named = number_of start.names

  -- the line tells the move
  line_told : told_at number (move_of named (name ∷ words)) ≡ Ok move
  line_told =
      sym (told ∙ ap (λ n. told_at number (move_of (number_of n) (name ∷ words))) has.names)

  -- it isn't faulty
  pub move_flawless : length old.moves < 10000 → moves_line_fault named earlier line ≡ None
  move_flawless room =
      let few : nat_lt (length (entries_in earlier)) 10000 ≡ true =
      grind (arith, nat_tests, has.count, room) in
      ap (moves_entry_fault named (length earlier + 1) (length (entries_in earlier))) read
      ∙ (λ i. option_or (result_err (told_at (sym number_is i) (move_of named (name ∷ words))))
      (cond (few i) None (Some (TooMany (length earlier + 1)))))
      ∙ ap (λ told. option_or (result_err told) None) line_told

  -- and is taken in
  pub move_taken : (new : Moving) → new.names ≡ old.names
      → new.moves ≡ old.moves ++ move ∷ [] → HasTaken start new (earlier ++ line ∷ [])
  move_taken new names moves =
      let some : has_words (words_in line) ≡ true = ap has_words read ∙ written name words in
      let next : entries_in (earlier ++ line ∷ []) ≡ entries_in earlier ++ (name ∷ words) ∷ [] =
      entries_round earlier line [] some ∙ ap (λ entry. entries_in earlier ++ entry ∷ []) read in
      let all : moves_of named (entries_in (earlier ++ line ∷ [])) ≡ old.moves ++ move ∷ [] =
      ap (moves_of named) next
      ∙ filter_map-append (λ entry. result_ok (move_of named entry)) (entries_in earlier)
      ((name ∷ words) ∷ [])
      ∙ (λ i. sym has.moves i
      ++ cons_option (told_move number move (move_of named (name ∷ words)) line_told i) []) in
      record {
        names = names ∙ has.names;
        moves = moves ∙ sym all;
        count = ap length moves ∙ length_push old.moves move ∙ ap (λ n. n + 1) has.count
            ∙ sym (length_push (entries_in earlier) (name ∷ words)) ∙ ap length (sym next);
      }
