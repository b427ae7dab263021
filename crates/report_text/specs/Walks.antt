-- A line that is read word by word, a text line by line, and the rows that lines tell.
use Rattle.std.specs.Prelude.{All, Err, IfOk, List, MatchBool, MatchOption, None, Ok, Option, Result, Some, [], drop, false, if◌then◌else◌, nat_le, length, map, position, take, ℕ, ◌++◌, ◌+◌, ◌<◌, ◌==◌, ◌∷◌, ◌≡◌, ◌≢◌, ◌≤◌}
use Rattle.report_text.specs.Common.{is_line_feed, Circuit, Constraint, Second, HasSmallWeight, IsBetweenRegisters, pathed_lines, Words, count_line, text_of, BadLine, Missing, NoMemory, ReportFault, Flaw, LineForm, Scale, range_with_len, slice_split}
use Rattle.report_text.specs.LineForms as form
use Rattle.report_text.specs.LineFields.{Field}
use Rattle.report_text.specs.declared.field.Flaw.TheVariants as flaws
use Rattle.report_text.specs.Fields.{LineHasFlaw}
use Rattle.report_text.specs.Forms.{cycle_forms, fields_of}
use Rattle.report_text.specs.ReportFaults.{HasFirstFault, flaw_fault, spaced_words}

-- how many kinds of flaws are judged before that one
abbrev pub rank : Option Flaw → ℕ
rank (Some flaws.Form) = 0
rank (Some flaws.Unknown) = 1
rank (Some flaws.Unfit) = 2
rank (Some flaws.Large) = 3
rank None = 4

-- the flaw of two that is judged first
abbrev pub sooner_flaw : (first second : Option Flaw) → Option Flaw
sooner_flaw first second = if nat_le (rank first) (rank second) then first else second

-- the words of a line that are left, and what is wrong with those before them first
pub record LineLeft : Type 0 where
  pub words : Words
  pub flaw : Option Flaw

-- what is wrong with a word that is read
abbrev pub flaw_in : {X : Type 0} → Result X Flaw → Option Flaw
flaw_in (Ok value) = None
flaw_in (Err flaw) = Some flaw

-- where the words that are left are to have these fields, this is wrong with the line first
abbrev pub EndsIn : Circuit → List Field → LineLeft → Option Flaw → Type 0
EndsIn circuit fields left flaw = (found : Option Flaw)
    × LineHasFlaw circuit fields left.words found × (flaw ≡ sooner_flaw left.flaw found)

-- words are taken by these fields; where nothing is wrong, they are these, and this holds
pub record Takes (circuit : Circuit) (fields : List Field) (texts : Words) (Holds : Type 0)
    (old new : LineLeft) : Type 0 where
  pub rest : new.words ≡ drop (length fields) old.words
  pub judged : (more : List Field) (flaw : Option Flaw) → EndsIn circuit more new flaw
      → EndsIn circuit (fields ++ more) old flaw
  pub taken : new.flaw ≡ None
      → (old.flaw ≡ None) × (old.words ≡ texts ++ new.words) × Holds

-- the next word is taken; where there is none, the line hasn't its form
pub record TakesNext (word : List ℕ) (old new : LineLeft) : Type 0 where
  pub some : 0 < length old.words → (old.words ≡ word ∷ new.words) × (new.flaw ≡ old.flaw)
  pub none : old.words ≡ [] → (new.words ≡ []) × (new.flaw ≡ Some flaws.Form)

-- what is wrong with a word is kept, and else its value is given
pub record Keeps {X : Type 0} (read : Result X Flaw) (given : X) (old new : LineLeft) : Type 0 where
  pub words : new.words ≡ old.words
  pub flaw : new.flaw ≡ sooner_flaw old.flaw (flaw_in read)
  pub value : IfOk read (λ value. given ≡ value)

-- a whole line of that form is judged; where nothing is wrong and nothing is left, it says this
pub record ReadsForm (circuit : Circuit) (scale : Scale) (form : LineForm) (Says : Words → Type 0)
    (old new : LineLeft) : Type 0 where
  pub judged : (flaw : Option Flaw) → EndsIn circuit [] new flaw
      → EndsIn circuit (fields_of circuit scale form old.words) old flaw
  pub says : new.flaw ≡ None → new.words ≡ [] → Says old.words

-- what is left of a text, and the number of its first line
pub record Left : Type 0 where
  pub line : ℕ
  pub text : List ℕ

-- a line is taken from what was left
pub record TakesLine (old : Left) (line : List ℕ) (new : Left) : Type 0 where
  pub some : (length old.text == 0) ≡ false
  pub end : position is_line_feed old.text ≡ Some (length line)
  pub line_is : line ≡ take (length line) old.text
  pub text : new.text ≡ drop (length line + 1) old.text
  pub number : new.line ≡ old.line + 1

-- the words are a line of that form without a flaw
abbrev pub IsFlawless : Circuit → Scale → LineForm → Words → Type 0
IsFlawless circuit scale form words =
    LineHasFlaw circuit (fields_of circuit scale form words) words None

-- these lines are taken without a flaw; so what is wrong with the rest is what is wrong with all
pub record Reads (circuit : Circuit) (scale : Scale) (forms : List LineForm) (lines : List Words)
    (old new : Left) : Type 0 where
  pub text : old.text ≡ text_of lines ++ new.text
  pub words : map spaced_words (slice_split is_line_feed old.text)
      ≡ lines ++ map spaced_words (slice_split is_line_feed new.text)
  pub number : new.line ≡ old.line + length forms
  pub faults : (more : List LineForm) (fault : Option ReportFault)
      → HasFirstFault circuit scale more new.line new.text fault
      → HasFirstFault circuit scale (forms ++ more) old.line old.text fault

-- the fault is the first by these forms, whatever lines are to follow
abbrev pub Stops : Circuit → Scale → List LineForm → Left → ReportFault → Type 0
Stops circuit scale forms left fault = fault ≢ NoMemory → (more : List LineForm)
    → HasFirstFault circuit scale (forms ++ more) left.line left.text (Some fault)

-- the next line has these words, and is read by each scale by which it has no flaw
pub record ReadsLine (circuit : Circuit) (scale : Scale) (form : LineForm) (words : Words)
    (old new : Left) : Type 0 where
  pub some : 0 < length words
  pub flawless : IsFlawless circuit scale form words
  pub read : (other : Scale) → IsFlawless circuit other form words
      → Reads circuit other (form ∷ []) (words ∷ []) old new

-- the next line is missing, has no line feed, or has a flaw by the form
abbrev pub StopsLine : Circuit → Scale → LineForm → Left → ReportFault → Type 0
StopsLine circuit scale form left fault = fault ≢ NoMemory
    → MatchBool (length left.text == 0) (fault ≡ Missing left.line)
    (MatchOption (position is_line_feed left.text) (fault ≡ BadLine left.line)
    (λ end. (flaw : Flaw) × LineHasFlaw circuit
    (fields_of circuit scale form (spaced_words (take end left.text)))
    (spaced_words (take end left.text)) (Some flaw) × (fault ≡ flaw_fault form left.line flaw)))

-- the next line has no flaw by the form, and denotes this value
pub record DenotesLine {X : Type 0} (circuit : Circuit) (scale : Scale) (form : LineForm)
    (Denotes : Words → X → Type 0) (old new : Left) (value : X) : Type 0 where
  pub words : Words
  pub line : ReadsLine circuit scale form words old new
  pub denoted : Denotes words value

-- each line says its row; the first has this number
abbrev pub SayEach : {X : Type 0} (Says : ℕ → Words → X → Type 0) (first : ℕ) → List Words
    → List X → Type 0
SayEach Says first [] [] = Unit {0}
SayEach Says first (words ∷ lines) (row ∷ rows) =
    Says first words row × SayEach Says (first + 1) lines rows
SayEach Says first lines rows = ⊥

-- so many lines are read, which say these rows
pub record HasRows {X : Type 0} (circuit : Circuit) (scale : Scale) (due : ℕ → LineForm)
    (Says : ℕ → Words → X → Type 0) (first count : ℕ) (old new : Left) (rows : List X)
    : Type 0 where
  pub lines : List Words
  pub read : Reads circuit scale (map due (range_with_len first count)) lines old new
  pub each : SayEach Says first lines rows
  pub many : length rows ≡ count

-- a line says how many they are, and they follow
pub record Counted {X : Type 0} (circuit : Circuit) (scale : Scale) (keyword : List ℕ)
    (due : ℕ → LineForm) (Says : ℕ → Words → X → Type 0) (first count : ℕ) (old new : Left)
    (rows : List X) : Type 0 where
  pub between : Left
  pub counted : ReadsLine circuit scale (form.Count keyword count)
      (count_line keyword count) old between
  pub has : HasRows circuit scale due Says first count between new rows

-- the lines of a cycle with paths
pub record HasPathed (circuit : Circuit) (scale : Scale) (count : ℕ) (old new : Left)
    (pathed : List Constraint × List (List ℕ)) : Type 0 where
  pub lines : Reads circuit scale (cycle_forms Second count)
      (pathed_lines circuit pathed.0 pathed.1) old new
  pub as_many : length pathed.0 ≡ count
  pub paths : length pathed.1 ≡ count
  pub registers : All (IsBetweenRegisters (length circuit.registers)) pathed.0
  pub weights : All HasSmallWeight pathed.0
  pub signals : All (All (λ number. number < length circuit.signals)) pathed.1
  pub few : All (λ path. length path ≤ 65536) pathed.1
