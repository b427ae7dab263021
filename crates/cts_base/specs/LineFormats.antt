-- Texts that are read line by line, each line after those before it. What is wrong with a line is
-- given by a function of the lines before it and of the line.
use Rattle.std.specs.Prelude.{◌≡◌, ◌⊎◌, ℕ, List, [], ◌∷◌, ◌++◌, Option, Some, None, Result, Err}
use Rattle.std.specs.Option.{option_or}
use Rattle.cts_base.specs.Lines.{lines_of}

-- the first fault of lines that come after others
abbrev pub first_fault_after : {Fault : Type 0}
    → (fault_of : List (List ℕ) → List ℕ → Option Fault) → (earlier lines : List (List ℕ))
    → Option Fault
first_fault_after fault_of earlier [] = None
first_fault_after fault_of earlier (line ∷ later) =
    option_or (fault_of earlier line) (first_fault_after fault_of (earlier ++ line ∷ []) later)

-- the first fault of a text
abbrev pub first_fault : {Fault : Type 0} → (fault_of : List (List ℕ) → List ℕ → Option Fault)
    → (text : List ℕ) → Option Fault
first_fault fault_of text = first_fault_after fault_of [] (lines_of text)

-- the fault, or what follows where there is none
abbrev pub unless_faulty : {Value Fault : Type 0} → Option Fault → Result Value Fault
    → Result Value Fault
unless_faulty None follows = follows
unless_faulty (Some fault) follows = Err fault

-- a call answers what a text tells, but where memory is refused
abbrev pub IsToldBy : {Value Fault : Type 0} → (no_memory : Fault) → (told : Result Value Fault)
    → (result : Result Value Fault) → Type 0
IsToldBy no_memory told result = (result ≡ told) ⊎ (result ≡ Err no_memory)

-- that is what is found, or memory was refused
abbrev pub IsFaultOf : {Fault : Type 0} → (no_memory : Fault) → (found : Option Fault) → Fault
    → Type 0
IsFaultOf no_memory found fault = (found ≡ Some fault) ⊎ (fault ≡ no_memory)
