-- A table of words and kinds, and the kind that the first word of it with another's letters names.
use Rattle.bench_reader.proofs.Vocabulary.{ℕ, ◌≡◌, Bool, true, false, if◌then◌else◌, List, [], ◌∷◌, Option, Some, None, Bor, refl, find, option_map, str_eq_ignore_ascii_case, Kind}

-- the kind at the first word that is the given one in any ASCII case
abbrev pub kind_at : List (Bor (List ℕ) × Kind) → List ℕ → Option Kind
kind_at [] word = None
kind_at (row ∷ rows) word =
    if str_eq_ignore_ascii_case word row.0.now then Some row.1 else kind_at rows word

-- a search for the word finds its kind
pub kind_at-find : (rows : List (Bor (List ℕ) × Kind)) (word : List ℕ)
    → option_map (λ row. row.1) (find (λ row. str_eq_ignore_ascii_case word row.0.now) rows)
    ≡ kind_at rows word
kind_at-find [] word = refl
kind_at-find (row ∷ rows) word =
    at (str_eq_ignore_ascii_case word row.0.now) (kind_at-find rows word)
  where
    at : (same : Bool)
        → option_map (λ row. row.1) (find (λ row. str_eq_ignore_ascii_case word row.0.now) rows)
        ≡ kind_at rows word → option_map (λ row. row.1)
        (if same then Some row else find (λ row. str_eq_ignore_ascii_case word row.0.now) rows)
        ≡ (if same then Some row.1 else kind_at rows word)
    at true rest = refl
    at false rest = rest
