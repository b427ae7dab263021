-- What a sink in memory holds, and what each write does.
use Rattle.std.specs.Prelude.{ℕ, ◌-◌, ◌==◌, ◌&&◌, ◌||◌, min, Bool, not, if◌then◌else◌, List, ◌++◌, length, take}
use Rattle.cts_io.specs.Plan.{PlanState, fails_next, after_call, with_fault}

-- the bytes that are written, how many bytes there is room for, the plan of the writes, and the
-- most bytes of a write
pub record SinkState : Type 0 where
  pub bytes : List ℕ
  pub room : ℕ
  pub plan : PlanState
  pub piece : ℕ

-- a write of these bytes is a fault: there are some, and the call is one of those that fail or no
-- room is left
abbrev pub is_refused : SinkState → List ℕ → Bool
is_refused sink offered = not (length offered == 0)
    && (fails_next sink.plan || (length sink.bytes == sink.room))

-- how many of these bytes a write takes
abbrev pub accepted : SinkState → List ℕ → ℕ
accepted sink offered = min (min sink.piece (length offered)) (sink.room - length sink.bytes)

-- after a write, a prefix of the offered bytes is written; after a fault, nothing more
abbrev pub after_write : SinkState → List ℕ → SinkState
after_write sink offered = if is_refused sink offered
    then record sink { plan = with_fault (after_call sink.plan) }
    else record sink {
      plan = after_call sink.plan;
      bytes = sink.bytes ++ take (accepted sink offered) offered;
    }
