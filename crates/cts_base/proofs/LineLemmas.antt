-- The first line of a text, and the lines of what follows its end.
use Rattle.cts_base.proofs.Vocabulary.{ℕ, ◌≡◌, ◌<◌, Some, None, List, [], ◌∷◌, length, take, drop, refl, arith, nat_tests, slice_split, position, strip_carriage_return, length-slice_split, is_line_feed, without_empty_last, lines_of}
use Rattle.cts_base.proofs.Places.{slice_split-cut, slice_split-whole}

-- only the last part can be left out
without_empty_last-cons : (part : List ℕ) (parts : List (List ℕ)) → 0 < length parts
    → without_empty_last (part ∷ parts) ≡ part ∷ without_empty_last parts
without_empty_last-cons part [] some = absurd (omega arith)
without_empty_last-cons part (next ∷ more) some = refl

without_empty_last-one : (byte : ℕ) (part : List ℕ)
    → without_empty_last ((byte ∷ part) ∷ []) ≡ (byte ∷ part) ∷ []
without_empty_last-one byte part = grind (arith, nat_tests)

-- a line feed ends the first line
pub lines_of-cut : (text : List ℕ) (end : ℕ) → position is_line_feed text ≡ Some end
    → lines_of text ≡ strip_carriage_return (take end text) ∷ lines_of (drop 1 (drop end text))
lines_of-cut text end found =
    let some : 0 < length (slice_split is_line_feed (drop 1 (drop end text))) =
    omega (arith, length-slice_split is_line_feed (drop 1 (drop end text))) in
    rw (slice_split-cut is_line_feed text end found, without_empty_last-cons _ _ some) refl

-- a text with no line feed is one line
pub lines_of-whole : (text : List ℕ) → position is_line_feed text ≡ None → 0 < length text
    → lines_of text ≡ strip_carriage_return text ∷ lines_of []
lines_of-whole [] whole some = absurd (omega arith)
lines_of-whole (byte ∷ text) whole some =
    rw (slice_split-whole is_line_feed (byte ∷ text) whole, without_empty_last-one byte text) refl
