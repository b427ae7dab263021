-- What the command `moves` prints: how long the clock tree is, and how long after each move of a
-- register, or what forbids every period. Boese and Kahng 1992; Chao and others 1992.
use Rattle.std.specs.Prelude.{◌≡◌, ℕ, ℤ, List, [], ◌∷◌, length, map, slice_set}
use Rattle.cts_base.specs.declared.fraction.Fraction.{Fraction}
use Rattle.answer_texts.specs.Types.{Point, Sink, Uv, Problem, Schedule, Merge, Show, Tree}
use Rattle.cts_model.specs.Vocabulary.{IsLeastWire, RealisesOffsets, embedding_of, total_wire, IsGreedy, IsLeastFraction, rotated, text_of, grid_of, on_grid, sinks_of, IsLeastSchedule}
use Rattle.move_session.specs.declared.moves.Move.{Move}
use Rattle.outcomes.specs.Syntheses.{IsPlacedTree}
use Rattle.report_text.specs.Values.{wire_line}
use Rattle.answer_texts.specs.NeverTexts.{IsNeverText, IsFoundOrNever}

-- so long is the tree of these merges over these sinks, each node at its chosen place with the
-- least reach; it realises the offsets, and no embedding of the merges that does has less wire
pub record IsTreeWire (sinks : List Sink) (merges : List Merge) (source : Uv) (wire : ℤ)
    : Type 0 where
  pub tree : Tree
  pub shows : List Show
  pub placed : IsPlacedTree sinks merges source tree shows
  pub total : wire ≡ total_wire (length sinks) (embedding_of tree)
  pub realises : RealisesOffsets 1 sinks merges (embedding_of tree)
  pub least : IsLeastWire sinks merges source wire

-- so long is the tree of these merges over a problem's registers at these places, from its source,
-- with the offsets of a schedule at a period
abbrev pub IsWireAt : Problem → Fraction → Schedule → List Merge → List Point → (wire : ℤ) → Type 0
IsWireAt problem period schedule merges places wire =
    IsTreeWire (sinks_of period problem.tech places schedule.at) merges
    (rotated (on_grid period problem.tech problem.places.source)) wire

-- the places after a move, which changes that of its register alone
abbrev pub moved_places : List Point → Move → List Point
moved_places places move = slice_set places move.register move.at

-- a wire for the places as they are, and one for the places after each move
abbrev pub AreWires : (IsWireFor : List Point → ℤ → Type 0) → List Point → List Move → List ℤ
    → Type 0
AreWires IsWireFor places [] (wire ∷ []) = IsWireFor places wire
AreWires IsWireFor places (move ∷ moves) (wire ∷ wires) =
    IsWireFor places wire × AreWires IsWireFor (moved_places places move) moves wires
AreWires IsWireFor places moves wires = ⊥

-- the bytes are the lines of wire of a problem, as it is and after each move: the schedule is the
-- least at the least period, and the merges stay those that are greedy for the given places
pub record IsWiresText (problem : Problem) (moves : List Move) (text : List ℕ) : Type 0 where
  pub period : Fraction
  pub least_period : IsLeastFraction problem.circuit problem.tech period
  pub schedule : Schedule
  pub least_schedule : IsLeastSchedule problem.circuit problem.tech period schedule
  pub merges : List Merge
  pub greedy : IsGreedy
      (sinks_of period problem.tech problem.places.registers schedule.at) merges
  pub wires : List ℤ
  pub each : AreWires (IsWireAt problem period schedule merges) problem.places.registers moves wires
  pub spelled : text ≡ text_of (map (wire_line (grid_of period problem.tech)) wires)

-- the bytes are a text for the problem and these moves, with its status
abbrev pub IsMovesText : Problem → List Move → (status : ℕ) → List ℕ → Type 0
IsMovesText problem moves = IsFoundOrNever (IsWiresText problem moves)
    (IsNeverText problem.circuit problem.tech)
