-- The first file of a name, by its place.
use Rattle.std.proofs.Common.{ℕ, zero, suc, ◌≡◌, ◌<◌, Bool, true, false, nat_lt, Option, Some, None, List, [], ◌∷◌, length, refl, ap, ◌∙◌, sym, arith}
use Rattle.std.specs.Prelude.{slice_get, position, IfSome, IfNone}
use Rattle.std.specs.List.{position_or_len}
use Rattle.std.specs.Option.{option_map}
use Rattle.std.specs.Str.{bytes_eq}
use Rattle.std.proofs.lemmas.Bool.Decides.{nat_tests}
use Rattle.std.proofs.lemmas.List.Folds.{find_at}
use Rattle.std.proofs.lemmas.Option.{slice_get_past}
use Rattle.cts_io.specs.MemoryInputs.{held_in, bytes_at}
use Rattle.cts_io.specs.declared.memory_inputs.HeldFile.{HeldFile}

-- a place within the files has a file
bytes_at-within : (files : List HeldFile) (at : ℕ) → at < length files
    → Some (bytes_at files at) ≡ option_map (λ file. file.bytes) (slice_get files at)
bytes_at-within [] at within = absurd (omega arith)
bytes_at-within (file ∷ files) zero within = refl
bytes_at-within (file ∷ files) (suc at) within = bytes_at-within files at (omega arith)

-- what a name holds, by the place of the first file that has it
held_in-position : (files : List HeldFile) (name : List ℕ)
    → option_map (bytes_at files) (position (λ file. bytes_eq file.name name) files)
    ≡ held_in files name
held_in-position files name = at (nat_lt (position_or_len p files) (length files)) refl
  where
    p : HeldFile → Bool
    p = λ file. bytes_eq file.name name

    at : (b : Bool) → nat_lt (position_or_len p files) (length files) ≡ b
        → option_map (bytes_at files) (position p files) ≡ held_in files name
    at true within =
        let below : position_or_len p files < length files = grind (arith, nat_tests) in
        rw (within, find_at p files) (bytes_at-within files (position_or_len p files) below)
    at false past =
        let none : slice_get files (position_or_len p files) ≡ None =
        slice_get_past files _ (grind (arith, nat_tests)) in
        rw (past, find_at p files, none) refl

-- the first file of a name is the one at that place
pub place-found : (files : List HeldFile) (name : List ℕ) (place : Option ℕ)
    → place ≡ position (λ file. bytes_eq file.name name) files
    → IfSome place (λ at. held_in files name ≡ Some (bytes_at files at))
place-found files name None is = tt
place-found files name (Some at) is =
    sym (held_in-position files name) ∙ ap (option_map (bytes_at files)) (sym is)

-- no place, where no file has the name
pub place-none : (files : List HeldFile) (name : List ℕ) (place : Option ℕ)
    → place ≡ position (λ file. bytes_eq file.name name) files
    → IfNone place (held_in files name ≡ None)
place-none files name None is =
    sym (held_in-position files name) ∙ ap (option_map (bytes_at files)) (sym is)
place-none files name (Some at) is = tt
