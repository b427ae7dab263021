-- A text of lines that are counted is no prefix of another such text.
use Rattle.answer_texts.proofs.Vocabulary.{◌≡◌, ◌<◌, ◌==◌, ℕ, List, [], ◌∷◌, ◌++◌, length, take, drop, get_or, refl, sym, ap, ap₂, ◌∙◌, subst, append_assoc, append-nil, length-append, arith, AllByRecursion, join_with_byte, position_or_len, take-append_seam, drop-append_seam, nat_tests, length-take, take-append-drop, Words, text_of, IsWord, IsLine, one_text, AreLines}
use Rattle.answer_texts.proofs.CountedLines.{AreCounted, no_more}

-- ---- one line

-- the words of a line with the spaces between them
abbrev joined : Words → List ℕ
joined words = join_with_byte 32 words

-- each byte is above the line feed
abbrev IsInLine : List ℕ → Type 0
IsInLine bytes = AllByRecursion (λ byte. 10 < byte) bytes

-- a word before others in a line
word_before : (word others : List ℕ) → IsWord word → IsInLine others → IsInLine (word ++ others)
word_before [] others is in_line = in_line
word_before (byte ∷ word) others is in_line =
    (omega (arith, is.0), word_before word others is.1 in_line)

-- no line has a line feed before its end
joined_in_line : (words : Words) → IsLine words → IsInLine (joined words)
joined_in_line [] is = absurd is
joined_in_line (word ∷ []) is =
    subst IsInLine (append-nil word) (word_before word [] is.0 tt)
joined_in_line (word ∷ next ∷ more) is =
    word_before word (32 ∷ joined (next ∷ more)) is.0
    (omega arith, joined_in_line (next ∷ more) is.1)

-- where the first line feed stands
first_feed : List ℕ → ℕ
first_feed bytes = position_or_len (λ byte. byte == 10) bytes

-- it ends the line
first_feed-line : (line suffix : List ℕ) → IsInLine line
    → first_feed (line ++ 10 ∷ suffix) ≡ length line
unfolding first_feed
first_feed-line [] suffix in_line = refl
first_feed-line (byte ∷ line) suffix in_line =
    let rest = first_feed-line line suffix in_line.1 in
    let above : 10 < byte = in_line.0 in
    grind (arith, nat_tests)

-- lines that begin one text are one, and so is what stands after them
one_line : (line other : Words) (suffix suffix' : List ℕ) → IsLine line → IsLine other
    → joined line ++ 10 ∷ suffix ≡ joined other ++ 10 ∷ suffix'
    → (line ≡ other) × (suffix ≡ suffix')
one_line line other suffix suffix' is is' same =
    let as_long : length (joined line) ≡ length (joined other) =
    sym (first_feed-line (joined line) suffix (joined_in_line line is)) ∙ ap first_feed same
    ∙ first_feed-line (joined other) suffix' (joined_in_line other is') in
    let bytes : joined line ≡ joined other =
    sym (take-append_seam (joined line) (10 ∷ suffix)) ∙ ap₂ take as_long same
    ∙ take-append_seam (joined other) (10 ∷ suffix') in
    let after : 10 ∷ suffix ≡ 10 ∷ suffix' =
    sym (drop-append_seam (joined line) (10 ∷ suffix)) ∙ ap₂ drop as_long same
    ∙ drop-append_seam (joined other) (10 ∷ suffix') in
    let lines = one_text (line ∷ []) (other ∷ []) (is, tt) (is', tt)
    (ap (λ b. (b ++ 10 ∷ []) ++ []) bytes) in
    (ap (λ l. get_or l 0 []) lines, ap (drop 1) after)

-- ---- texts

-- a line before the rest of a text
line_before : (line suffix rest : List ℕ)
    → line ++ 10 ∷ (suffix ++ rest) ≡ ((line ++ 10 ∷ []) ++ suffix) ++ rest
line_before line suffix rest =
    sym (append_assoc (line ++ 10 ∷ []) suffix rest ∙ append_assoc line (10 ∷ []) (suffix ++ rest))

-- a text with a line isn't empty
pub some_text_of : (lines : List Words) → 0 < length lines → 0 < length (text_of lines)
some_text_of [] some = some
some_text_of (line ∷ lines) some =
    omega (
      arith,
      length-append (joined line ++ 10 ∷ []) (text_of lines),
      length-append (joined line) (10 ∷ []),
    )

-- where a text begins another, its lines begin those of the other
first_lines : (lines others : List Words) (rest : List ℕ) → AreLines lines → AreLines others
    → text_of lines ++ rest ≡ text_of others → (more : List Words) × (others ≡ lines ++ more)
first_lines [] others rest each each' same = (others, refl)
first_lines (line ∷ lines) [] rest each each' same =
    let none : length (joined line ++ 10 ∷ (text_of lines ++ rest)) ≡ 0 =
    ap length (line_before (joined line) (text_of lines) rest ∙ same) in
    absurd (omega (arith, length-append (joined line) (10 ∷ (text_of lines ++ rest))))
first_lines (line ∷ lines) (other ∷ others) rest each each' same =
    let first = one_line line other (text_of lines ++ rest) (text_of others) each.0 each'.0
    (line_before (joined line) (text_of lines) rest ∙ same
    ∙ append_assoc (joined other) (10 ∷ []) (text_of others)) in
    let (more, are) = first_lines lines others rest each.1 each'.1 first.1 in
    (more, ap₂ (λ l ls. l ∷ ls) (sym first.0) are)

-- so a text of counted lines doesn't lack the end of another
pub no_prefix : {plan : List ℕ} (lines others : List Words) (count : ℕ) → AreLines lines
    → AreLines others → AreCounted plan lines → AreCounted plan others
    → text_of lines ≡ take count (text_of others) → count < length (text_of others) → ⊥
no_prefix {plan} lines others count each each' counted counted' cut short =
    let (more, are) = first_lines lines others (drop count (text_of others)) each each'
    (ap (λ prefix. prefix ++ drop count (text_of others)) cut
    ∙ take-append-drop count (text_of others)) in
    let none = no_more lines more counted (subst (AreCounted plan) are counted') in
    let same : others ≡ lines = are ∙ ap (λ m. lines ++ m) none ∙ append-nil lines in
    let as_long : length (text_of others) ≡ length (take count (text_of others)) =
    ap (λ l. length (text_of l)) same ∙ ap length cut in
    omega (arith, length-take count (text_of others))
