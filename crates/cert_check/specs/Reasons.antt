-- The number of each reason, as it is printed, and what it is about. They are this project's.
use Rattle.std.specs.Prelude.{ℕ}
use Rattle.cert_check.specs.declared.verdict.Reason.{Reason}
use Rattle.cert_check.specs.declared.verdict.Reason.TheVariants.{BelowFloor, CycleBroken, CycleValue, NotLeast, NotOfCircuit, PathBroken, ScheduleMisses, SkewDiffers, SlackDiffers, TooShort, Total, TreeShape, Unshown, WireSum}
use Rattle.cert_check.specs.declared.verdict.Subject.{Subject}
use Rattle.cert_check.specs.declared.verdict.Subject.TheVariants.{Whole, Place, Register}

-- the number, and the whole report, a place of the cycle, a node or edge, or a register
abbrev pub reason_numbers : Reason → ℕ × Subject
reason_numbers BelowFloor = (1, Whole)
reason_numbers (CycleBroken place) = (2, Place place)
reason_numbers (NotOfCircuit place) = (3, Place place)
reason_numbers CycleValue = (4, Whole)
reason_numbers (ScheduleMisses register) = (5, Register register)
reason_numbers (TreeShape node) = (6, Place node)
reason_numbers (TooShort edge) = (7, Place edge)
reason_numbers (WireSum edge) = (8, Place edge)
reason_numbers (SkewDiffers register) = (9, Register register)
reason_numbers (Unshown node) = (10, Place node)
reason_numbers Total = (11, Whole)
reason_numbers (SlackDiffers register) = (12, Register register)
reason_numbers (PathBroken place) = (13, Place place)
reason_numbers (NotLeast register) = (14, Register register)
