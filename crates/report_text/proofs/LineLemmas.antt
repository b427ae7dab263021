-- A line's words, one after the other, and lines one after the other.
use Rattle.report_text.proofs.Vocabulary.{ℕ, ◌≡◌, ◌+◌, ◌==◌, false, List, [], ◌∷◌, ◌++◌, map, length, pos, codes, refl, ap, sym, ◌∙◌, append-nil, append_assoc, true≢false, arith, signed_decimal, join_with_byte, flat_map, flat_map-append, map-range_with_len_more, Circuit, Words, line_of, text_of, lines_below, path_line, signal_name, suffix}

-- each word after the first stands after the byte
pub join_with_byte-map : {X : Type 0} (read : X → List ℕ) (byte : ℕ) (word : List ℕ)
    (others : List X) → join_with_byte byte (word ∷ map read others) ≡ word ++ flat_map
    (λ other. byte ∷ read other) others
join_with_byte-map read byte word [] = sym (append-nil word)
join_with_byte-map read byte word (other ∷ others) =
    ap (λ rest. word ++ byte ∷ rest) (join_with_byte-map read byte (read other) others)

-- a line is its first word, those after it, and a line feed
pub line_of-suffix : (word : List ℕ) (others : Words)
    → line_of (word ∷ others) ≡ word ++ (suffix others ++ 10 ∷ [])
line_of-suffix word [] = ap (λ bytes. bytes ++ 10 ∷ []) refl
line_of-suffix word (other ∷ others) = search (arith, append_assoc, line_of-suffix other others)

-- a text with one more line
pub text_of-push : (lines : List Words) (line : Words)
    → text_of (lines ++ line ∷ []) ≡ text_of lines ++ line_of line
text_of-push lines line = search (arith, flat_map-append, append-nil)

-- the text of the lines below a number, and the line of that number
pub text_of-more : (line_at : ℕ → Words) (count : ℕ)
    → text_of (lines_below line_at (count + 1)) ≡ text_of (lines_below line_at count)
    ++ line_of (line_at count)
text_of-more line_at count =
    ap text_of (map-range_with_len_more line_at 0 count count (omega arith))
    ∙ text_of-push (lines_below line_at count) (line_at count)

-- where the lines below a number are written, the next line makes it those below the next number
pub more_lines : (line_at : ℕ → Words) (count : ℕ) (before written now : List ℕ)
    → written ≡ before ++ text_of (lines_below line_at count)
    → now ≡ written ++ line_of (line_at count)
    → now ≡ before ++ text_of (lines_below line_at (count + 1))
more_lines line_at count before written now so_far next = search (arith, append_assoc, text_of-more)

-- words after others, and more after those
pub after_more : (before written now : List ℕ) (words others : Words)
    → written ≡ before ++ suffix words → now ≡ written ++ suffix others
    → now ≡ before ++ suffix (words ++ others)
after_more before written now words others so_far next =
    search (arith, append_assoc, flat_map-append)

-- a line of a first word and those after it was appended
pub whole_line : (before begun written now word : List ℕ) (others : Words)
    → begun ≡ before ++ word → written ≡ begun ++ suffix others → now ≡ written ++ 10 ∷ []
    → now ≡ before ++ line_of (word ∷ others)
whole_line before begun written now word others first more last =
    search (arith, append_assoc, line_of-suffix)

-- lines after others
pub lines_more : (before written now : List ℕ) (lines others : List Words)
    → written ≡ before ++ text_of lines → now ≡ written ++ text_of others
    → now ≡ before ++ text_of (lines ++ others)
lines_more before written now lines others so_far next =
    search (arith, append_assoc, flat_map-append)

-- the text of one line
pub one_line : (before now : List ℕ) (line : Words) → now ≡ before ++ line_of line
    → now ≡ before ++ text_of (line ∷ [])
one_line before now line written = search (arith, append-nil)

-- a path that has signals is printed
pub path_line-some : (circuit : Circuit) (path : List ℕ) → (length path == 0) ≡ false
    → path_line circuit path ≡ codes "path" ∷ signed_decimal (pos (length path))
    ∷ map (signal_name circuit) path
path_line-some circuit [] none = absurd (true≢false none)
path_line-some circuit (first ∷ more) some = refl
