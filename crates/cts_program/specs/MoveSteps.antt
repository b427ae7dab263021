-- What one step of the command `moves` goes by, and what it prints.
use Rattle.std.specs.Prelude.{◌≡◌, ◌<◌, ℕ, ℤ, List, ◌++◌}
use Rattle.cts_model.specs.Vocabulary.{IsPointBelow, line_of}
use Rattle.move_session.specs.declared.moves.Move.{Move}
use Rattle.move_session.specs.Sessions.{SessionState}
use Rattle.report_text.specs.Values.{wire_line}
use Rattle.answer_texts.specs.MoveTexts.{IsTreeWire}

-- the move is of a register, to a place at most 1,000,000,000 length units from the origin along
-- either axis
pub record IsNearMove (registers : ℕ) (move : Move) : Type 0 where
  pub within : move.register < registers
  pub near : IsPointBelow 1000000000000001 move.at

-- the bytes are those before and the line of a session's tree
pub record AppendsWire (session : SessionState) (grid : ℤ) (before now : List ℕ) : Type 0 where
  pub wire : ℤ
  pub is_wire : IsTreeWire session.sinks session.merges session.source wire
  pub line : now ≡ before ++ line_of (wire_line grid wire)
