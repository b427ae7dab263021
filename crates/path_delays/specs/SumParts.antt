-- The least and the greatest sum of delays: how they grow, and how two of them become one.
use Rattle.std.specs.Prelude.{◌+ℤ◌, ◌≤ℤ◌, ◌⊎◌, ℕ, pos, negsuc, int_lt, Option, Some, None, if◌then◌else◌}
use Rattle.std.specs.Int.{int_min, int_max}
use Rattle.cts_model.specs.table.Tables.{IsWithin}
use Rattle.path_delays.specs.declared.sums.Sums.{Sums}

-- the sums after one more gate
abbrev pub sums_through : Sums → Sums → Sums
sums_through sums delay = record {
  least = sums.least +ℤ delay.least;
  greatest = sums.greatest +ℤ delay.greatest;
}

-- the least and the greatest of both
abbrev pub merged_sums : Sums → Sums → Sums
merged_sums first second = record {
  least = int_min first.least second.least;
  greatest = int_max first.greatest second.greatest;
}

-- from no sums on, those that come first stand alone
abbrev pub joined_sums : Option Sums → Sums → Sums
joined_sums None sums = sums
joined_sums (Some known) sums = merged_sums known sums

-- the least and the greatest of two, of which each may be missing
abbrev pub either_sums : Option Sums → Option Sums → Option Sums
either_sums known None = known
either_sums known (Some sums) = Some (joined_sums known sums)

-- both are from 0 to a limit
pub record AreWithin (limit : ℕ) (sums : Sums) : Type 0 where
  pub least : IsWithin 0 limit sums.least
  pub greatest : IsWithin 0 limit sums.greatest

-- no sums: merged with others they give those
abbrev pub no_sums : Sums
no_sums = record { least = pos 1000000000000; greatest = negsuc 999999999999 }

-- no sums, after delays of a limit at most
pub record AreMissing (limit : ℕ) (sums : Sums) : Type 0 where
  pub least_above : no_sums.least ≤ℤ sums.least
  pub least_below : sums.least ≤ℤ (no_sums.least +ℤ pos limit)
  pub greatest_above : no_sums.greatest ≤ℤ sums.greatest
  pub greatest_below : sums.greatest ≤ℤ (no_sums.greatest +ℤ pos limit)

-- sums within a limit, or none
abbrev pub AreBounded : ℕ → Sums → Type 0
AreBounded limit sums = AreWithin limit sums ⊎ AreMissing limit sums

-- the sums, if there are any
abbrev pub some_sums : Sums → Option Sums
some_sums sums = if int_lt sums.greatest (pos 0) then None else Some sums

-- the least is no greater, and the greatest no less
pub record IsAround (sums inner : Sums) : Type 0 where
  pub least : sums.least ≤ℤ inner.least
  pub greatest : inner.greatest ≤ℤ sums.greatest

-- there are sums, and they are around these
abbrev pub AreAround : Option Sums → Sums → Type 0
AreAround None inner = ⊥
AreAround (Some sums) inner = IsAround sums inner

-- no path through a circuit takes so many ticks
abbrev pub delay_limit : ℕ
delay_limit = 65999999999
