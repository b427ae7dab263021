-- The words of a command line ask for one thing, so what is said of the contents of the files that
-- they name is one.
use Rattle.cts_program.proofs.Vocabulary.{ℕ, ◌≡◌, ◌≤◌, if◌then◌else◌, List, [], ◌∷◌, ◌++◌, length, Option, Some, None, IfSome, codes, refl, ap₂, sym, ◌∙◌, subst, arith, flat_map, Command, Zero, Given, options_of, tables_of, IsSame, Bench, Placement, Report, Topology, Moves, NamedFile, Request, Ask, request_of, corner_files, files_of, AreContents, AreDenoted}
use Rattle.std.specs.Str.{bytes_eq}
use Rattle.command_line.proofs.PlainCommands.{one_command, same_form}
use Rattle.failure_lines.specs.declared.file_kind.FileKind.TheVariants.{Tech}
use Rattle.cts_program.proofs.DocumentLists.{Agree}

-- the file that an option names, if it names one
abbrev file_of : Given → List NamedFile
file_of one = if bytes_eq one.0 (codes "--bench") then (Bench, one.1) ∷ []
    else if bytes_eq one.0 (codes "--tech") then (Tech, one.1) ∷ []
    else if bytes_eq one.0 (codes "--pl") then (Placement, one.1) ∷ []
    else if bytes_eq one.0 (codes "--report") then (Report, one.1) ∷ []
    else if bytes_eq one.0 (codes "--topology") then (Topology, one.1) ∷ []
    else if bytes_eq one.0 (codes "--moves") then (Moves, one.1) ∷ [] else []

-- the files of a command are those that its options name, in their order, and its tables
files_named : (command : Command) → files_of command
    ≡ flat_map file_of (options_of command) ++ corner_files 1 (tables_of command)
files_named (Zero bench None) = refl
files_named (Zero bench (Some tech)) = refl
files_named command = refl

files_same : (command other : Command) → IsSame command other → files_of command ≡ files_of other
files_same command other same =
    files_named command
    ∙ ap₂ (λ given tables. flat_map file_of given ++ corner_files 1 tables) same.options same.tables
    ∙ sym (files_named other)

-- so commands that the same words mean ask for the same
request_same : (command other : Command) → IsSame command other
    → request_of command ≡ request_of other
unfolding request_of
request_same command other same =
    let form = same_form command other same.name in
    let files = files_same command other same in
    λ i. record { form = form i; given = same.options i; files = files i }

pub one_request : (words : List (List ℕ)) (request other : Request) → Ask words request
    → Ask words other → request ≡ other
one_request words request other ask ask' =
    ask.asks
    ∙ request_same ask.command ask'.command
    (one_command words ask.command ask'.command ask.means ask'.means)
    ∙ sym ask'.asks

module _ (holds : List ℕ → Option (List ℕ)) where
  -- what the device gives is of no more files than there are
  pub denoted_within : (files : List NamedFile) (contents : List (List ℕ))
      → AreDenoted holds files contents → length contents ≤ length files
  denoted_within files [] denoted = omega arith
  denoted_within [] (bytes ∷ contents) denoted = absurd denoted
  denoted_within (file ∷ files) (bytes ∷ contents) (is, denoted) =
      let within = denoted_within files contents denoted in omega arith

  -- it agrees with what is known besides
  pub denoted_agree : (files : List NamedFile) (denoted contents : List (List ℕ))
      → AreDenoted holds files denoted → AreContents holds files contents → Agree denoted contents
  denoted_agree files [] contents denoted are = tt
  denoted_agree files (bytes ∷ more) [] denoted are = tt
  denoted_agree [] (bytes ∷ more) (other ∷ others) denoted are = absurd denoted
  denoted_agree (file ∷ files) (bytes ∷ more) (other ∷ others) (is, denoted) (alike, are) = (
    subst (λ held. IfSome held (λ b. b ≡ other)) is alike,
    denoted_agree files more others denoted are,
  )
