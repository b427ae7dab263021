-- Lines of which some say how many stand after them, so that the lines of a text say where it ends.
use Rattle.answer_texts.proofs.Vocabulary.{◌≡◌, ◌≤◌, ◌*◌, ℕ, List, [], ◌∷◌, ◌++◌, length, map, drop, get_or, refl, sym, ap, ◌∙◌, subst, length-append, arith, drop-append_seam, drop-append-le, Words}
use Rattle.std.specs.Str.Parse.{digits_value}

-- the number that a line has after its first word; a line of one word has 0
abbrev pub number_in : Words → ℕ
number_in line = digits_value 10 (get_or line 1 [])

-- each heading says by its number, a fixed number of times, how many lines stand after it: `plan`
-- has how many times, for one heading after the other
abbrev Follow : (plan : List ℕ) → List Words → Type 0
Follow [] lines = lines ≡ []
Follow (times ∷ plan) [] = ⊥
Follow (times ∷ plan) (heading ∷ lines) = (times * number_in heading ≤ length lines)
    × Follow plan (drop (times * number_in heading) lines)

-- the same as a record, by which a proof finds the plan and the lines
pub record AreCounted (plan : List ℕ) (lines : List Words) : Type 0 where
  pub follow : Follow plan lines

-- no lines
pub counted_none : AreCounted [] []
counted_none = record { follow = refl }

-- a heading and its lines, before others
pub counted_section : {times : ℕ} {heading : Words} {rest : List Words} {plan : List ℕ}
    (section : List Words) → length section ≡ times * number_in heading → AreCounted plan rest
    → AreCounted (times ∷ plan) (heading ∷ (section ++ rest))
counted_section {times} {heading} {rest} {plan} section as_many counted = record {
  follow = (
    omega (arith, as_many, length-append section rest),
    subst (Follow plan)
        (sym (ap (λ count. drop count (section ++ rest)) (sym as_many)
        ∙ drop-append_seam section rest)) counted.follow,
  );
}

-- a line with none after it
pub counted_line : {line : Words} {rest : List Words} {plan : List ℕ} → AreCounted plan rest
    → AreCounted (0 ∷ plan) (line ∷ rest)
counted_line counted = counted_section [] (omega arith) counted

-- each line on its own
pub counted_alone : (lines : List Words) → AreCounted (map (λ line. 0) lines) lines
counted_alone [] = counted_none
counted_alone (line ∷ lines) = counted_line (counted_alone lines)

-- where lines follow a plan, and with more after them too, there are no more
none_after : (plan : List ℕ) (lines more : List Words) → Follow plan lines
    → Follow plan (lines ++ more) → more ≡ []
none_after [] lines more none none' = subst (λ l. l ++ more ≡ []) none none'
none_after (times ∷ plan) [] more follow follow' = absurd follow
none_after (times ∷ plan) (heading ∷ lines) more follow follow' =
    let count = times * number_in heading in
    none_after plan (drop count lines) more follow.1
    (subst (Follow plan) (drop-append-le count lines more follow.0) follow'.1)

-- so counted lines end where their headings say
pub no_more : {plan : List ℕ} (lines more : List Words) → AreCounted plan lines
    → AreCounted plan (lines ++ more) → more ≡ []
no_more {plan} lines more counted counted' =
    none_after plan lines more counted.follow counted'.follow
