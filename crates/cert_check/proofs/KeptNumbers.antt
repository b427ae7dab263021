-- Numbers that fit are kept as they are.
use Rattle.cert_check.proofs.Vocabulary.{◌≡◌, ◌^◌, ℤ, ◌+ℤ◌, ◌-ℤ◌, of_z, to_z, arith, w128, ints, to_z-of_z, IsBelow}
use Rattle.cts_model.specs.table.Tables.{IsWithin}

-- a number as the code keeps it
abbrev pub kept : ℤ → ℤ
kept number = to_z w128 (of_z w128 number)

-- a register's delay and those of gates, added up
pub kept_sum : (first more : ℤ) → IsWithin 0 1000000 first → IsBelow (2 ^ 81) more
    → IsBelow (10 ^ 25) (kept (kept first +ℤ kept more))
kept_sum first more small few = search (arith, ints, to_z-of_z)

-- a difference of two products is kept as it is
pub kept_difference : (one other : ℤ) → IsBelow (10 ^ 37) one → IsBelow (10 ^ 37) other
    → kept (kept one -ℤ kept other) ≡ one -ℤ other
kept_difference one other small also = omega (arith, ints, small, also)
