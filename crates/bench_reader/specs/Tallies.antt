-- What is kept of names that are walked over.
use Rattle.std.specs.Prelude.{ℕ, ◌+◌, ◌&&◌, List, length}
use Rattle.std.specs.List.{list_all}
use Rattle.cts_model.specs.Vocabulary.{is_short}
use Rattle.bench_reader.specs.declared.tally.Tally.{Tally}

-- how many names there are, and whether none is too long
abbrev pub tally_of : List (List ℕ) → Tally
tally_of names = record { count = length names; are_short = list_all is_short names }

-- the same of more names
abbrev pub with_names : Tally → List (List ℕ) → Tally
with_names tally names = record {
  count = tally.count + length names;
  are_short = tally.are_short && list_all is_short names;
}
