-- What the reader has taken in from the lines so far.
use Rattle.std.specs.Prelude.{◌≡◌, ℕ, List, length}
use Rattle.cts_model.specs.Vocabulary.{number_of, entries_in}
use Rattle.move_session.specs.declared.moving.Moving.{Moving}
use Rattle.move_session.specs.Moves.{moves_of}

-- the names are those of the start, and the moves those of the lines, one for each entry
pub record HasTaken (start moving : Moving) (lines : List (List ℕ)) : Type 0 where
  pub names : moving.names ≡ start.names
  pub moves : moving.moves ≡ moves_of (number_of start.names) (entries_in lines)
  pub count : length moving.moves ≡ length (entries_in lines)
