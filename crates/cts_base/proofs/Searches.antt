-- What a search for bytes finds, and what is before it.
use Rattle.cts_base.proofs.Vocabulary.{ℕ, ◌≡◌, ◌<◌, ◌-◌, ◌==◌, Bool, true, false, Option, Some, None, List, length, take, slice_index, sym, ap, subst, ◌∙◌, arith, nat_tests, position, strip_carriage_return, length-take, is_line_feed, is_hash, before_hash}
use Rattle.std.proofs.Common.{if◌then◌else◌}
use Rattle.std.proofs.lemmas.Grind.{common_steps}
use Rattle.std.proofs.lemmas.Bool.{false_from_ne_true}
use Rattle.std.proofs.lemmas.List.{get_or-take, take_all}
use Rattle.std.proofs.lemmas.List.Sums.{position_or_len_is}
use Rattle.memchr.specs.Find.{IsFirstByte, is_byte2}

-- the first place that passes, by the places before it
position_is : (test : ℕ → Bool) (text : List ℕ) (place : ℕ) → place < length text
    → ((k : ℕ) → k < place → test (slice_index text k) ≡ false)
    → test (slice_index text place) ≡ true → position test text ≡ Some place
position_is test text place within none passes =
    let at = position_or_len_is test text place 0 (omega (arith, within)) none (λ _. passes) in
    grind (arith, common_steps)

-- a search answers the first place that passes
pub first_position : (test : ℕ → Bool) (text : List ℕ) (found : Option ℕ)
    → IsFirstByte test text found → found ≡ position test text
first_position test text (Some place) is = sym (position_is test text place is.0.high
    (λ k before. false_from_ne_true _ (is.0.before k (omega arith) before)) is.1)
first_position test text None is =
    let at = position_or_len_is test text (length text) 0 (omega arith)
    (λ k within. false_from_ne_true _ (is k (omega arith) within))
    (λ none. absurd (omega (arith, none))) in
    grind (arith, common_steps)

-- neither of two bytes
neither_byte : (one other byte : ℕ) → ¬ (is_byte2 one other byte ≡ true)
    → ((byte == one) ≡ false) × ((byte == other) ≡ false)
neither_byte one other byte isn't = (grind (arith, nat_tests), grind (arith, nat_tests))

module _ (text : List ℕ) (end : ℕ) (first : IsFirstByte (is_byte2 10 35) text (Some end)) where
  here : (k : ℕ) → k < end → (is_line_feed (slice_index text k) ≡ false)
      × (is_hash (slice_index text k) ≡ false)
  here k before = neither_byte 10 35 (slice_index text k) (first.0.before k (omega arith) before)

  -- a line feed before any `#` ends the first line
  pub feed_first : slice_index text end ≡ 10 → position is_line_feed text ≡ Some end
  feed_first feed = position_is is_line_feed text end first.0.high (λ k before. (here k before).0)
      (grind (arith, nat_tests))

  -- a place of a part of this line
  within : (size k : ℕ) → k < length (take size (take end text)) → (k < size) × (k < end)
  within size k less =
      let part = length-take size (take end text) in
      let whole = length-take end text in
      (omega (arith, less, part), omega (arith, less, part, whole))

  -- no part of this line has a comment
  no_hash : (size : ℕ) → before_hash (take size (take end text)) ≡ take size (take end text)
  no_hash size =
      let line = take size (take end text) in
      let all = position_or_len_is is_hash line (length line) 0 (omega arith)
      (λ k less. let (small, before) = within size k less in
      ap is_hash (get_or-take size (take end text) k 0 small ∙ get_or-take end text k 0 before)
      ∙ (here k before).1) (λ none. absurd (omega (arith, none))) in
      ap (λ n. take n line) all ∙ take_all (length line) line (omega arith)

  -- nor has it without its end
  pub no_comment : before_hash (strip_carriage_return (take end text))
      ≡ strip_carriage_return (take end text)
  no_comment = by (slice_index (take end text) (length (take end text) - 1) == 13)
    where
      by : (b : Bool) → let line = take end text in
          let cut = (if b then take (length line - 1) line else line) in before_hash cut ≡ cut
      by true = no_hash (length (take end text) - 1)
      by false = subst (λ line. before_hash line ≡ line)
          (take_all (length (take end text)) (take end text) (omega arith))
          (no_hash (length (take end text)))
