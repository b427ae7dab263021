-- The lines that are printed of a circuit's timing: words with one space between them, and a line
-- feed after each line.
use Rattle.std.specs.Prelude.{ℕ, ℤ, pos, List, [], ◌∷◌, ◌++◌, map, length, Option, Some, None, if◌then◌else◌, codes}
use Rattle.std.specs.List.{flat_map, join_with_byte}
use Rattle.std.specs.Fmt.{signed_decimal}
use Rattle.cts_base.specs.declared.fraction.Fraction.{Fraction}
use Rattle.cts_base.specs.Fractions.{fraction_text, quotient_text}
use Rattle.cts_model.specs.Types.{Circuit, Constraint, PeriodShow, Cycle, Floor, Slack}
use Rattle.cts_model.specs.netlist.Paths.{register_name}

-- the words of a line
abbrev pub Words : Type 0
Words = List (List ℕ)

-- the bytes of a line
abbrev pub line_of : Words → List ℕ
line_of words = join_with_byte 32 words ++ 10 ∷ []

-- the bytes of some lines
abbrev pub text_of : List Words → List ℕ
text_of lines = flat_map line_of lines

-- the line of a word and a number
abbrev pub count_line : (word : List ℕ) → ℕ → Words
count_line word number = word ∷ signed_decimal (pos number) ∷ []

-- the period in ticks, a fraction in lowest terms
abbrev pub period_line : Fraction → Words
period_line period = codes "period" ∷ fraction_text period.num period.den ∷ []

-- the line for a period that the floor shows
abbrev pub floor_line : Words
floor_line = codes "floor" ∷ []

-- a requirement between two registers: the one that launches, the one that captures, and the weight
-- in ticks
abbrev pub constraint_line : (word : List ℕ) → Circuit → (launch capture : ℕ) → ℤ → Words
constraint_line word circuit launch capture weight =
    word ∷ register_name circuit launch ∷ register_name circuit capture
    ∷ signed_decimal weight ∷ []

-- a constraint between two registers: a hold constraint leads against its path
abbrev pub line_for : Circuit → Constraint → Words
line_for circuit constraint =
    if constraint.setup
    then constraint_line (codes "setup") circuit constraint.tail constraint.head constraint.weight
    else constraint_line (codes "hold") circuit constraint.head constraint.tail constraint.weight

-- a cycle, and its constraints in order
abbrev pub cycle_lines : Circuit → List Constraint → List Words
cycle_lines circuit cycle =
    count_line (codes "cycle") (length cycle) ∷ map (line_for circuit) cycle

-- what shows that no period is less
abbrev pub show_lines : Circuit → PeriodShow → List Words
show_lines circuit (Cycle cycle) = cycle_lines circuit cycle
show_lines circuit Floor = floor_line ∷ []

-- the word for a slack
abbrev pub slack_text : Option Fraction → List ℕ
slack_text None = codes "-"
slack_text (Some slack) = fraction_text slack.num slack.den

-- a register, its arrival in ticks and its slacks
abbrev pub register_line : Circuit → (den : ℤ) → (register : ℕ) → (arrival : ℤ) → Slack → Words
register_line circuit den register arrival slack = register_name circuit register
    ∷ quotient_text arrival den ∷ slack_text slack.setup ∷ slack_text slack.hold ∷ []
