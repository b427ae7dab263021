-- The text of lines that are appended one after the other.
use Rattle.std.proofs.Common.{ℕ, ◌≡◌, ◌+◌, List, [], ◌∷◌, ◌++◌, ap, sym, ◌∙◌, append-nil, append_assoc, arith}
use Rattle.std.proofs.lemmas.Grind.{flat_map-append}
use Rattle.std.proofs.lemmas.List.FromFn.{map-range_with_len_more}
use Rattle.demo_input.specs.Lines.{ended, lines_for_each, ended_lines}

-- the text of the lines below a number, and the line of that number
pub text_of_more : (line_at : ℕ → List ℕ) (count : ℕ)
    → ended_lines (lines_for_each line_at (count + 1))
    ≡ ended_lines (lines_for_each line_at count) ++ ended (line_at count)
text_of_more line_at count =
    ap ended_lines (map-range_with_len_more line_at 0 count count (omega arith))
    ∙ flat_map-append ended (lines_for_each line_at count) (line_at count ∷ [])
    ∙ ap (λ more. ended_lines (lines_for_each line_at count) ++ more)
    (append-nil (ended (line_at count)))

-- where the lines below a number are written, the next line makes it those below the next number
pub more_lines : (line_at : ℕ → List ℕ) (count : ℕ) (before written now : List ℕ)
    → written ≡ before ++ ended_lines (lines_for_each line_at count)
    → now ≡ written ++ ended (line_at count)
    → now ≡ before ++ ended_lines (lines_for_each line_at (count + 1))
more_lines line_at count before written now so_far next =
    next ∙ ap (λ bytes. bytes ++ ended (line_at count)) so_far
    ∙ append_assoc before (ended_lines (lines_for_each line_at count))
    (ended (line_at count))
    ∙ ap (λ bytes. before ++ bytes) (sym (text_of_more line_at count))

-- where lines are written after a beginning, one more line makes it the text with that line last
pub last_line : (lines : List (List ℕ)) (first last begun written now : List ℕ)
    → begun ≡ first → written ≡ begun ++ ended_lines lines → now ≡ written ++ ended last
    → now ≡ first ++ ended_lines (lines ++ last ∷ [])
last_line lines first last begun written now first_is so_far next =
    next ∙ ap (λ bytes. bytes ++ ended last)
    (so_far ∙ ap (λ bytes. bytes ++ ended_lines lines) first_is)
    ∙ append_assoc first (ended_lines lines) (ended last)
    ∙ ap (λ bytes. first ++ bytes) (sym (flat_map-append ended lines (last ∷ [])
    ∙ ap (λ more. ended_lines lines ++ more) (append-nil (ended last))))
