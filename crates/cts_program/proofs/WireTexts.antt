-- The lines of wire of a session, one for the places as they are and one after each move.
use Rattle.cts_program.proofs.Vocabulary.{moves_in, Ok, ◌≡◌, ℕ, ℤ, List, [], ◌∷◌, ◌++◌, length, map, refl, ap, sym, subst, ◌∙◌, All, map_push, Problem, line_of, text_of, length-sinks_of, Move, IsSessionOf, StandsAt, near_coordinate, wire_line, AreWires, IsTreeWire, IsWireAt, IsWiresText, moved_places, AppendsWire, IsNearMove}
use Rattle.cts_base.specs.declared.fraction.Fraction.{Fraction}
use Rattle.cts_model.specs.declared.place.Point.{Point}
use Rattle.cts_model.specs.declared.schedule.Schedule.{Schedule}
use Rattle.cts_model.specs.declared.tree.Merge.{Merge}
use Rattle.cts_model.specs.Vocabulary.{IsGreedy, sinks_of}
use Rattle.move_session.specs.Sessions.{SessionState}
use Rattle.move_session.proofs.ToldMoves.{IsToldMove, each_told}
use Rattle.report_text.proofs.LineLemmas.{one_line, text_of-push}

-- ---- moves that were read

-- a move that is told is near
near_move : (problem : Problem) (move : Move) → IsToldMove problem.circuit move
    → IsNearMove (length problem.circuit.registers) move
near_move problem move told = record {
  within = told.within;
  near = record {
    x = near_coordinate told.x move.at.x told.x_is;
    y = near_coordinate told.y move.at.y told.y_is;
  };
}

-- so are all
pub near_moves : (problem : Problem) (bytes : List ℕ) (moves : List Move)
    → moves_in bytes problem.circuit ≡ Ok moves
    → All (IsNearMove (length problem.circuit.registers)) moves
near_moves problem bytes moves accepts =
    each_told problem.circuit (IsNearMove (length problem.circuit.registers)) (near_move problem)
    bytes moves accepts

-- ---- places and wires

-- the places after some moves
abbrev pub places_after : List Point → List Move → List Point
places_after places [] = places
places_after places (move ∷ moves) = places_after (moved_places places move) moves

-- one more move
places_push : (places : List Point) (moves : List Move) (move : Move)
    → places_after places (moves ++ move ∷ []) ≡ moved_places (places_after places moves) move
places_push places [] move = refl
places_push places (first ∷ moves) move = places_push (moved_places places first) moves move

-- with its wire
wires_push : (IsWireFor : List Point → ℤ → Type 0) (places : List Point) (moves : List Move)
    (wires : List ℤ) (move : Move) (wire : ℤ) → AreWires IsWireFor places moves wires
    → IsWireFor (moved_places (places_after places moves) move) wire
    → AreWires IsWireFor places (moves ++ move ∷ []) (wires ++ wire ∷ [])
wires_push IsWireFor places [] [] move wire each next = absurd each
wires_push IsWireFor places [] (first ∷ []) move wire each next = (each, next)
wires_push IsWireFor places [] (first ∷ more ∷ wires) move wire each next = absurd each
wires_push IsWireFor places (one ∷ moves) [] move wire each next = absurd each
wires_push IsWireFor places (one ∷ moves) (first ∷ wires) move wire each next =
    (each.0, wires_push IsWireFor (moved_places places one) moves wires move wire each.1 next)

-- ---- a session

module _ (problem : Problem) (period : Fraction) (schedule : Schedule) (merges : List Merge)
    (grid : ℤ) where
  -- after these moves of a session their lines are written
  pub record AreWritten (moves : List Move) (session : SessionState) (text : List ℕ)
      : Type 0 where
    stands : StandsAt problem period schedule merges grid
        (places_after problem.places.registers moves) session
    wires : List ℤ
    each : AreWires (IsWireAt problem period schedule merges) problem.places.registers moves wires
    spelled : text ≡ text_of (map (wire_line grid) wires)

  -- the wire of a session that stands for registers at places is theirs
  wire_at : (places : List Point) (session : SessionState) (wire : ℤ)
      → StandsAt problem period schedule merges grid places session
      → IsTreeWire session.sinks session.merges session.source wire
      → IsWireAt problem period schedule merges places wire
  wire_at places session wire stands is =
      let sinks = sinks_of period problem.tech places schedule.at in
      subst (λ source. IsTreeWire sinks merges source wire) stands.stands.source_is
      (subst (λ list. IsTreeWire sinks list session.source wire) stands.stands.merges_are
      (subst (λ list. IsTreeWire list session.merges session.source wire) stands.stands.sinks_are
      is))

  -- the first line
  pub wires_first : (session : SessionState) (text : List ℕ)
      → StandsAt problem period schedule merges grid problem.places.registers session
      → AppendsWire session grid [] text → AreWritten [] session text
  wires_first session text stands appends = record {
    stands = stands;
    wires = appends.wire ∷ [];
    each = wire_at problem.places.registers session appends.wire stands appends.is_wire;
    spelled = one_line [] text (wire_line grid appends.wire) appends.line;
  }

  -- and that after one more move
  pub wires_next : (moves : List Move) (move : Move) (session moved : SessionState)
      (text now : List ℕ) → AreWritten moves session text
      → ((places : List Point) → StandsAt problem period schedule merges grid places session
      → StandsAt problem period schedule merges grid (moved_places places move) moved)
      → AppendsWire moved grid text now → AreWritten (moves ++ move ∷ []) moved now
  wires_next moves move session moved text now written so appends =
      let places = places_after problem.places.registers moves in
      let stands = so places written.stands in
      record {
        stands = subst (λ p. StandsAt problem period schedule merges grid p moved)
            (sym (places_push problem.places.registers moves move)) stands;
        wires = written.wires ++ appends.wire ∷ [];
        each = wires_push (IsWireAt problem period schedule merges) problem.places.registers moves
            written.wires move appends.wire written.each
            (wire_at (moved_places places move) moved appends.wire stands
            appends.is_wire);
        spelled = appends.line
            ∙ ap (λ bytes. bytes ++ line_of (wire_line grid appends.wire)) written.spelled
            ∙ sym (text_of-push (map (wire_line grid) written.wires)
            (wire_line grid appends.wire))
            ∙ ap text_of (sym (map_push (wire_line grid) written.wires appends.wire));
      }

module _ (problem : Problem) (session : SessionState) (grid : ℤ)
    (made : IsSessionOf problem session grid) where
  -- the registers have as many places as arrivals
  as_many_places : length problem.places.registers ≡ length made.schedule.at
  as_many_places = problem.valid.registers ∙ sym made.least_schedule.registers

  -- a problem's session stands for the given places
  pub session_stands : StandsAt problem made.period made.schedule session.merges grid
      problem.places.registers session
  session_stands =
      record { stands = made.stands; grid_is = made.grid_is; as_many = as_many_places }

  -- and has as many sinks as there are registers
  pub as_many_sinks : length session.sinks ≡ length problem.circuit.registers
  as_many_sinks = ap length made.stands.sinks_are
      ∙ length-sinks_of made.period problem.tech problem.places.registers made.schedule.at
      as_many_places
      ∙ made.least_schedule.registers

  -- the lines after all moves are the text
  pub wires_text : (moves : List Move) (last : SessionState) (text : List ℕ)
      → AreWritten problem made.period made.schedule session.merges grid moves last text
      → IsWiresText problem moves text
  wires_text moves last text written = record {
    period = made.period;
    least_period = made.least_period;
    schedule = made.schedule;
    least_schedule = made.least_schedule;
    merges = session.merges;
    greedy = subst (λ sinks. IsGreedy sinks session.merges) made.stands.sinks_are made.greedy;
    wires = written.wires;
    each = written.each;
    spelled = written.spelled
        ∙ ap (λ steps. text_of (map (wire_line steps) written.wires)) made.grid_is;
  }
