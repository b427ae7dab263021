-- Files in memory, which one of them is read, and what each call does.
use Rattle.std.specs.Prelude.{ℕ, min, Bool, ◌&&◌, not, is_some, if◌then◌else◌, List, [], length, drop, Option, find, slice_get, unwrap_or}
use Rattle.std.specs.Option.{option_map}
use Rattle.std.specs.Str.{bytes_eq}
use Rattle.cts_io.specs.Plan.{PlanState, fails_next, after_call, with_fault}
use Rattle.cts_io.specs.declared.memory_inputs.HeldFile.{HeldFile}

-- the files, the plan of their calls, the most bytes of a take, and what is left of the started
-- file
pub record InputsState : Type 0 where
  pub files : List HeldFile
  pub plan : PlanState
  pub piece : ℕ
  pub left : List ℕ

-- the bytes of the first file of a name
abbrev pub held_in : List HeldFile → List ℕ → Option (List ℕ)
held_in files name = option_map (λ file. file.bytes) (find (λ file. bytes_eq file.name name) files)

-- the bytes of the file at a place, and none past the last file
abbrev pub bytes_at : List HeldFile → ℕ → List ℕ
bytes_at files at = unwrap_or (option_map (λ file. file.bytes) (slice_get files at)) []

-- a start answers Ok: a file has the name, and the call isn't one of those that fail
abbrev pub starts : InputsState → List ℕ → Bool
starts inputs name = not (fails_next inputs.plan) && is_some (held_in inputs.files name)

-- after a start, all bytes of the file are left; after a fault, what was left
abbrev pub after_start : InputsState → List ℕ → InputsState
after_start inputs name = if starts inputs name
    then record inputs {
      plan = after_call inputs.plan;
      left = unwrap_or (held_in inputs.files name) [];
    }
    else record inputs { plan = with_fault (after_call inputs.plan) }

-- how many bytes a take gives to a buffer of this length
abbrev pub given : InputsState → ℕ → ℕ
given inputs room = min (min inputs.piece room) (length inputs.left)

-- after a take, the given bytes aren't left; after a fault, all are
abbrev pub after_take : InputsState → ℕ → InputsState
after_take inputs room = if fails_next inputs.plan
    then record inputs { plan = with_fault (after_call inputs.plan) }
    else record inputs {
      plan = after_call inputs.plan;
      left = drop (given inputs room) inputs.left;
    }
