-- The places of a list that is gone over forwards or backwards.
use Rattle.std.specs.Prelude.{◌-◌, ℕ, Bool, if◌then◌else◌}

-- the place that comes after so many others
abbrev pub place_at : (turn places : ℕ) (forwards : Bool) → ℕ
place_at turn places forwards = if forwards then turn else places - 1 - turn
