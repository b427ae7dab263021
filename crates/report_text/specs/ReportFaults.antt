-- What is wrong with a text that spells no report, and what holds of each text. Lines are judged
-- in order, each by the form that is due. The order and the faults are this project's choice.
use Rattle.std.specs.Prelude.{◌≡◌, ◌⊎◌, ◌+◌, ◌==◌, ◌^◌, ℕ, ℤ, pos, ◌*ℤ◌, ◌∷◌, [], List, Option, Some, None, length, take, drop, get_or, if◌then◌else◌, codes, MatchBool, MatchOption, position}
use Rattle.report_text.specs.Common.{Report, Spells, is_line_feed, after_first, slice_split, list_any, bytes_eq, digits_value, is_slash, Circuit, Version, Tech, ReportFault, BadLine, UnknownRegister, Missing, Extra, TooLarge, UnknownSignal, Flaw, Scale, First, Second}
use Rattle.report_text.specs.LineForms as form
use Rattle.report_text.specs.declared.field.Flaw.TheVariants.{Unknown, Large}
use Rattle.report_text.specs.Fields.{LineHasFlaw}
use Rattle.report_text.specs.Forms.{fields_of, forms_of, is_word}

-- the words of a line: it is cut at each space, so a word may have no bytes
abbrev pub spaced_words : List ℕ → List (List ℕ)
spaced_words line = slice_split (λ byte. byte == 32) line

-- the fault that a line has with a flaw
abbrev pub unknown_on : form.LineForm → (line : ℕ) → ReportFault
unknown_on form.Path line = UnknownSignal line
unknown_on form line = UnknownRegister line

abbrev pub flaw_fault : form.LineForm → (line : ℕ) → Flaw → ReportFault
flaw_fault form line Unknown = unknown_on form line
flaw_fault form line Large = TooLarge line
flaw_fault form line flaw = BadLine line

-- the first fault, or none, of a text whose lines from that number on are to have these forms: a
-- line that is due is missing, has no line feed or has a flaw, or more lines stand there
abbrev pub HasFirstFault : Circuit → Scale → List form.LineForm → (line : ℕ) → (text : List ℕ)
    → Option ReportFault → Type 0
HasFirstFault circuit scale [] line text fault =
    fault ≡ (if length text == 0 then None else Some (Extra line))
HasFirstFault circuit scale (due ∷ more) line text fault =
    MatchBool (length text == 0) (fault ≡ Some (Missing line))
    (MatchOption (position is_line_feed text) (fault ≡ Some (BadLine line))
    (λ end. (flaw : Option Flaw)
    × LineHasFlaw circuit (fields_of circuit scale due (spaced_words (take end text)))
    (spaced_words (take end text)) flaw
    × MatchOption flaw
    (HasFirstFault circuit scale more (line + 1) (drop (end + 1) text) fault)
    (λ found. fault ≡ Some (flaw_fault due line found))))

-- a word of a line of the text, and no bytes where there is none
abbrev pub word_at : List ℕ → (line place : ℕ) → List ℕ
word_at text line place =
    get_or (spaced_words (get_or (slice_split is_line_feed text) line [])) place []

-- what the first three lines tell: the version, the steps, how many constraints the cycle has
abbrev pub version_denoted : List ℕ → Version
version_denoted text =
    if bytes_eq (word_at text 0 1) (codes "1") then First else Second

abbrev pub den_denoted : List ℕ → ℤ
den_denoted text = if list_any is_slash (word_at text 1 1)
    then pos (digits_value 10 (after_first is_slash (word_at text 1 1))) else pos 1

abbrev pub scale_denoted : Tech → List ℕ → Scale
scale_denoted tech text = record {
  den = den_denoted text;
  grid = pos (10 ^ 6) *ℤ (pos 8 *ℤ den_denoted text *ℤ tech.wire_num);
}

abbrev pub cycle_denoted : List ℕ → ℕ
cycle_denoted text = if is_word (word_at text 2 0 ∷ []) 0 (codes "floor")
    then 0 else digits_value 10 (word_at text 2 1)

-- the text has this fault first as a report of the circuit with these delays, or none
abbrev pub HasFault : Circuit → Tech → List ℕ → Option ReportFault → Type 0
HasFault circuit tech text fault = HasFirstFault circuit (scale_denoted tech text)
    (forms_of (version_denoted text) (cycle_denoted text) (length circuit.registers)) 1 text fault

-- a text spells at most one report, over one circuit and for one table
abbrev pub OneReport : Type 0
OneReport = (circuit : Circuit) (tech : Tech) (text : List ℕ) (report other : Report)
    → Spells circuit tech text report → Spells circuit tech text other → report ≡ other

-- as a report a text has one fault at the most
abbrev pub OneFault : Type 0
OneFault = (circuit : Circuit) (tech : Tech) (text : List ℕ) (fault other : Option ReportFault)
    → HasFault circuit tech text fault → HasFault circuit tech text other → fault ≡ other

-- and none where it spells one
abbrev pub NoFaultOfReport : Type 0
NoFaultOfReport = (circuit : Circuit) (tech : Tech) (text : List ℕ) (report : Report)
    → Spells circuit tech text report → HasFault circuit tech text None

-- where it has none, it spells one
abbrev pub ReportOfNoFault : Type 0
ReportOfNoFault = (circuit : Circuit) (tech : Tech) (text : List ℕ)
    → HasFault circuit tech text None → (report : Report) × Spells circuit tech text report

-- the text has a fault, or it spells a report
abbrev pub HasFaultOrReport : Circuit → Tech → List ℕ → Type 0
HasFaultOrReport circuit tech text =
    ((fault : ReportFault) × HasFault circuit tech text (Some fault))
    ⊎ ((report : Report) × Spells circuit tech text report)
