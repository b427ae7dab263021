-- How an answer ends, as the exit status of the program tells it.
use Rattle.std.specs.Prelude.{ℕ}
use Rattle.answer_texts.specs.declared.answer.Ending.{Ending}
use Rattle.answer_texts.specs.declared.answer.Ending.TheVariants.{Done, Never}

-- 0 with what was asked for, 1 with what forbids every period
abbrev pub ending_status : Ending → ℕ
ending_status Done = 0
ending_status Never = 1
