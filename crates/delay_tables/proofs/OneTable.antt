-- The bytes of a delay table tell one table: a fraction has lowest terms in one way.
use Rattle.delay_tables.proofs.Vocabulary.{◌≡◌, ℕ, ◌*◌, ◌/◌, ◌<◌, ℤ, pos, negsuc, ◌*ℤ◌, ◌≤ℤ◌, List, [], ◌∷◌, codes, Bool, sym, ap, ◌∙◌, subst, arith, ints, Members, IsLowest, one_fraction, Tech, text_at, numerator_of, denominator_of, DenotesTable, AcceptsTable}
use Rattle.std.proofs.Math.Nat.{mul-div_cancel}
use Rattle.cts_model.proofs.OneRecord.{same_tech}
use Rattle.delay_tables.proofs.FlawlessTables.{is_flawless, is_top_within}
use Rattle.delay_tables.proofs.Fractions.{small_denominator}
use Rattle.delay_tables.proofs.OneFault.{one_document}

-- two fractions that have the value of a third have one value
crossed : (a b c d num den : ℕ) → 0 < den → a * den ≡ num * b → c * den ≡ num * d → a * d ≡ c * b
crossed a b c d num den some first second =
    let prefix : (a * d) * den ≡ (a * den) * d = omega arith in
    let middle : (num * b) * d ≡ (num * d) * b = omega arith in
    let back : (c * den) * b ≡ (c * b) * den = omega arith in
    let same : (a * d) * den ≡ (c * b) * den =
    prefix ∙ ap (λ n. n * d) first ∙ middle ∙ ap (λ n. n * b) (sym second) ∙ back in
    sym (mul-div_cancel (a * d) some) ∙ ap (λ n. n / den) same ∙ mul-div_cancel (c * b) some

-- the wires of two tables that have the fraction of one text have one value
same_value : (num den num' den' : ℤ) (a b : ℕ) → 0 < b → pos 1 ≤ℤ num → pos 1 ≤ℤ den
    → pos 1 ≤ℤ num' → pos 1 ≤ℤ den' → num *ℤ pos b ≡ pos a *ℤ den → num' *ℤ pos b ≡ pos a *ℤ den'
    → num *ℤ den' ≡ num' *ℤ den
same_value (pos n) (pos d) (pos n') (pos d') a b some some_n some_d some_n' some_d' same same' =
    ap pos (crossed n d n' d' a b some (omega (arith, ints)) (omega (arith, ints)))
same_value (negsuc n) den num' den' a b some some_n some_d some_n' some_d' same same' =
    absurd (omega (arith, ints))
same_value num (negsuc d) num' den' a b some some_n some_d some_n' some_d' same same' =
    absurd (omega (arith, ints))
same_value num den (negsuc n') den' a b some some_n some_d some_n' some_d' same same' =
    absurd (omega (arith, ints))
same_value num den num' (negsuc d') a b some some_n some_d some_n' some_d' same same' =
    absurd (omega (arith, ints))

-- the fraction of a table's wire is in lowest terms
wire_lowest : (tech : Tech) → IsLowest tech.wire_num tech.wire_den
wire_lowest tech = record {
  some_den = tech.valid.wire_den_within.above;
  coprime = tech.valid.lowest_terms;
}

-- a document denotes one table
one_denoted : (document : Members) (tech other : Tech)
    → 0 < denominator_of (text_at (codes "wire" ∷ []) (codes "delay") document)
    → DenotesTable document tech → DenotesTable document other → tech ≡ other
one_denoted document tech other some denotes denotes' =
    let text = text_at (codes "wire" ∷ []) (codes "delay") document in
    let same = same_value tech.wire_num tech.wire_den other.wire_num other.wire_den
    (numerator_of text) (denominator_of text) some
    tech.valid.wire_num_within.above tech.valid.wire_den_within.above
    other.valid.wire_num_within.above other.valid.wire_den_within.above denotes.wire
    denotes'.wire in
    let wire = one_fraction tech.wire_num tech.wire_den other.wire_num other.wire_den
    (wire_lowest tech) (wire_lowest other) same in
    same_tech tech other wire.0 wire.1
    (denotes.source ∙ sym denotes'.source) (denotes.setup ∙ sym denotes'.setup)
    (denotes.hold ∙ sym denotes'.hold) (denotes.least ∙ sym denotes'.least)
    (denotes.greatest ∙ sym denotes'.greatest) (denotes.host ∙ sym denotes'.host)
    (denotes.floor ∙ sym denotes'.floor) (denotes.gates ∙ sym denotes'.gates)

-- bytes tell one table
pub one_table : (used : List Bool) (bytes : List ℕ) (tech other : Tech)
    → AcceptsTable used bytes tech → AcceptsTable used bytes other → tech ≡ other
one_table used bytes tech other accepts accepts' =
    let text = text_at (codes "wire" ∷ []) (codes "delay") accepts.document in
    let flawless = is_flawless used accepts.document accepts.flawless in
    let top = is_top_within accepts.document flawless.keys in
    let den = small_denominator text top.small in
    let same = one_document bytes accepts'.document accepts.document accepts'.reads accepts.reads in
    one_denoted accepts.document tech other (omega arith) accepts.denotes
    (subst (λ document. DenotesTable document other) same accepts'.denotes)
