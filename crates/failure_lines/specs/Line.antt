-- A line on its way to a sink.
use Rattle.std.specs.Prelude.{◌≡◌, ◌≤◌, ℕ, Bool, true, false, List, ◌++◌, Option}
use Rattle.cts_io.specs.Device.{Rose, appended, WritesPrefix}

-- the bytes that aren't written yet, and whether the sink has failed
pub record LineState : Type 0 where
  pub held : List ℕ
  pub failed : Bool

-- a line, what is written to its sink, and the sink's count of faults
abbrev pub Way : Type 0
Way = LineState × Option (List ℕ) × ℕ

-- a text stands after what was written before, but for the bytes that are held
pub record IsHeld (text : List ℕ) (before : Option (List ℕ)) (held : List ℕ)
    (now : Option (List ℕ)) : Type 0 where
  pub done : List ℕ
  pub parts : text ≡ done ++ held
  pub written : now ≡ appended before done

-- how far a text is told, by whether the sink has failed: then a prefix of it is written
abbrev pub IsToldTo : Bool → (text : List ℕ) → Option (List ℕ) → ℕ → (held : List ℕ)
    → Option (List ℕ) → ℕ → Type 0
IsToldTo false text before faults held written faults_now =
    IsHeld text before held written × (faults ≤ faults_now)
IsToldTo true text before faults held written faults_now =
    WritesPrefix before text written × Rose faults faults_now

-- the text of a line that began where this was written and the sink had failed so often
abbrev pub IsTold : (text : List ℕ) → Option (List ℕ) → ℕ → Way → Type 0
IsTold text before faults (line, written, faults_now) =
    IsToldTo line.failed text before faults line.held written faults_now

-- bytes are put at the end of a line, whatever its text is
pub record Puts (bytes : List ℕ) (old now : Way) : Type 0 where
  pub told : (text : List ℕ) (before : Option (List ℕ)) (faults : ℕ)
      → IsTold text before faults old → IsTold (text ++ bytes) before faults now
