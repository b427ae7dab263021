-- Numbers of any length as the reader keeps them.
use Rattle.std.specs.Prelude.{◌-◌, ◌^◌, ℕ, min}
use Rattle.cts_model.specs.declared.tree.Merge.{Merge}

-- the number, and where it is above the greatest `u32`, which no node has, that one
abbrev pub kept_number : ℕ → ℕ
kept_number number = min number (2 ^ 32 - 1)

-- a merge with its nodes so
abbrev pub kept_merge : Merge → Merge
kept_merge merge =
    record { first = kept_number merge.first; second = kept_number merge.second }
