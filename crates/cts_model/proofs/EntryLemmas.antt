-- The entries of lines, where one more comes.
use Rattle.cts_model.proofs.Vocabulary.{◌≡◌, ℕ, true, List, ◌∷◌, ◌++◌, map, refl, ap, ◌∙◌, arith, filter, nat_tests, map-append, filter-append}
use Rattle.cts_model.specs.text.Entries.{entries_in, has_words, words_in}

-- any other line has one, with those of the lines round it
pub written : (word : List ℕ) (words : List (List ℕ)) → has_words (word ∷ words) ≡ true
written word words = grind (arith, nat_tests)

pub entries_round : (earlier : List (List ℕ)) (line : List ℕ) (later : List (List ℕ))
    → has_words (words_in line) ≡ true
    → entries_in (earlier ++ line ∷ later) ≡ entries_in earlier ++ words_in line ∷ entries_in later
entries_round earlier line later some =
    ap (filter has_words) (map-append words_in earlier (line ∷ later))
    ∙ filter-append has_words (map words_in earlier) (words_in line ∷ map words_in later)
    ∙ rw some refl
