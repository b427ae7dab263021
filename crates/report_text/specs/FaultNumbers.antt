-- The number of each fault of a text that is no report, as it is printed. They are this project's.
use Rattle.std.specs.Prelude.{ℕ}
use Rattle.report_text.specs.declared.fault.ReportFault.{ReportFault}
use Rattle.report_text.specs.declared.fault.ReportFault.TheVariants.{BadLine, UnknownRegister, Missing, Extra, TooLarge, NoMemory, UnknownSignal}

-- the number, and the line
abbrev pub fault_numbers : ReportFault → ℕ × ℕ
fault_numbers (BadLine line) = (1, line)
fault_numbers (UnknownRegister line) = (2, line)
fault_numbers (Missing line) = (3, line)
fault_numbers (Extra line) = (4, line)
fault_numbers (TooLarge line) = (5, line)
fault_numbers NoMemory = (6, 0)
fault_numbers (UnknownSignal line) = (7, line)
