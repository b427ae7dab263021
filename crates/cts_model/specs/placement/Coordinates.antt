-- Points whose two coordinates are written as decimal numbers.
use Rattle.std.specs.Prelude.{ℕ, List, ℤ, Result, Ok, Err}
use Rattle.cts_base.specs.Decimals.{micros_of}
use Rattle.cts_base.specs.declared.number.NumberFault.{NumberFault}
use Rattle.cts_model.specs.Types.{Point}

-- the point of two coordinates, or why x is refused, or else y
abbrev pub point_from : (x y : Result ℤ NumberFault) → Result Point NumberFault
point_from (Err fault) y = Err fault
point_from (Ok x) (Err fault) = Err fault
point_from (Ok x) (Ok y) = Ok (record { x = x; y = y })

-- the point that two words name, in millionths
abbrev pub point_of : (x y : List ℕ) → Result Point NumberFault
point_of x y = point_from (micros_of x) (micros_of y)
