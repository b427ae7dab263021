-- Lines are determined by their bytes: no word has a space or a line feed, or any byte below them.
use Rattle.report_text.proofs.Vocabulary.{◌≡◌, ◌<◌, ◌==◌, false, ℕ, List, [], ◌∷◌, ◌++◌, All, map, refl, ap, ap₂, ◌∙◌, append_assoc, ne_eqb, arith, same_from_push, All-from_recursion, slice_split_none, slice_split_at, AllByRecursion, join_with_byte, slice_split, Words, text_of, is_line_feed, spaced_words}

-- each byte is above the space
abbrev pub IsWord : List ℕ → Type 0
IsWord bytes = AllByRecursion (λ byte. 32 < byte) bytes

-- there is a word, and each is one
abbrev pub IsLine : Words → Type 0
IsLine [] = ⊥
IsLine (word ∷ words) = AllByRecursion IsWord (word ∷ words)

-- ---- the bytes of a line

-- no byte is that one
abbrev pub Lacks : ℕ → List ℕ → Type 0
Lacks byte bytes = AllByRecursion (λ other. (other == byte) ≡ false) bytes

-- a word has no byte up to the space
word_lacks : (byte : ℕ) (word : List ℕ) → byte < 33 → IsWord word → Lacks byte word
word_lacks byte [] below is = tt
word_lacks byte (first ∷ word) below is = search (arith, ne_eqb, word_lacks byte word below is.1)

-- at each place
lacks_each : (byte : ℕ) (bytes : List ℕ) → Lacks byte bytes
    → All (λ other. (other == byte) ≡ false) bytes
lacks_each byte bytes = All-from_recursion (λ other. (other == byte) ≡ false) bytes

-- the parts of bytes lack it
lacks_both : (byte : ℕ) (prefix back : List ℕ) → Lacks byte prefix → Lacks byte back
    → Lacks byte (prefix ++ back)
lacks_both byte [] back lacks lacks' = lacks'
lacks_both byte (first ∷ prefix) back lacks lacks' =
    (lacks.0, lacks_both byte prefix back lacks.1 lacks')

-- words with spaces between them have no line feed
pub words_lack : (words : Words) → IsLine words → Lacks 10 (join_with_byte 32 words)
words_lack [] is = tt
words_lack (word ∷ []) is = word_lacks 10 word (omega arith) is.0
words_lack (word ∷ next ∷ words) is =
    search (arith, lacks_both, word_lacks, words_lack (next ∷ words) is.1)

-- and are cut at the spaces
pub words_cut : (words : Words) → IsLine words → spaced_words (join_with_byte 32 words) ≡ words
words_cut [] is = absurd is
words_cut (word ∷ []) is = search (arith, slice_split_none, lacks_each, word_lacks)
words_cut (word ∷ next ∷ words) is =
    search (arith, slice_split_at, lacks_each, word_lacks, words_cut (next ∷ words) is.1)

-- ---- the lines of a text

-- a text is cut at the line feeds, and its lines at the spaces
pub lines_cut : (lines : List Words) → AllByRecursion IsLine lines
    → map spaced_words (slice_split is_line_feed (text_of lines)) ≡ lines ++ ([] ∷ []) ∷ []
lines_cut [] are = refl
lines_cut (words ∷ lines) are =
    let bytes : List ℕ = join_with_byte 32 words in
    ap (λ text. map spaced_words (slice_split is_line_feed text)) (append_assoc bytes (10 ∷ [])
    (text_of lines)) ∙ ap (map spaced_words) (slice_split_at is_line_feed bytes 10 (text_of lines)
    (lacks_each 10 _ (words_lack words are.0)) refl) ∙ ap₂ (λ w ws. w ∷ ws) (words_cut _ are.0)
    (lines_cut lines are.1)

-- so lines are determined by their text
pub one_text : (lines others : List Words) → AllByRecursion IsLine lines
    → AllByRecursion IsLine others → text_of lines ≡ text_of others → lines ≡ others
one_text lines others each each' same = search (arith, same_from_push, lines_cut)
