-- Names that the lines of a netlist use, where those that all lines define are known.
use Rattle.std.specs.Prelude.{◌≡◌, ◌⊎◌, ℕ, List, All, IsSome}
use Rattle.cts_model.specs.Vocabulary.{statements_in, number_of, Statement, uses_of}
use Rattle.bench_reader.specs.declared.fault.BenchFault.{BenchFault}
use Rattle.bench_reader.specs.declared.fault.BenchFault.TheVariants.{Undefined, NoMemory}

-- each of the used names is one of these
abbrev pub AreNumbered : (names used : List (List ℕ)) → Type 0
AreNumbered names used = All (λ name. IsSome (number_of names name)) used

-- so is each that a statement uses
abbrev pub UsesDefined : List (List ℕ) → Statement → Type 0
UsesDefined names statement = AreNumbered names (uses_of statement)

-- and each that the lines use
abbrev pub AreDefined : (names lines : List (List ℕ)) → Type 0
AreDefined names lines = All (UsesDefined names) (statements_in lines)

-- why a line of this number can't be taken in: not each of the names that it uses is one of these,
-- or memory was refused
abbrev pub IsUseFault : (number : ℕ) → (names used : List (List ℕ)) → BenchFault → Type 0
IsUseFault number names used fault =
    ((fault ≡ Undefined number) × (AreNumbered names used → ⊥)) ⊎ (fault ≡ NoMemory)
