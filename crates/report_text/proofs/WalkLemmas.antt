-- Lines that are taken from a text one after the other, the first flaw of a line, and the first
-- fault of a text.
use Rattle.report_text.proofs.Vocabulary.{◌≡◌, ◌↔◌, ℕ, List, ◌∷◌, Option, Some, None, refl, zero, suc, ◌<◌, ◌+◌, ◌-◌, ◌==◌, Bool, true, false, Result, Ok, Err, IfErr, IsErrAnd, [], ◌++◌, map, length, take, drop, get_or, MatchBool, MatchOption, sym, ap, ap₂, subst, ◌∙◌, append_assoc, append-nil, arith, drop-cons, nat_lt, length-append, lt-ltb, eq-eqb, ne_eqb, slice_split, position, position_or_len, join_with_byte, nat_tests, flat_map-append, take-append-drop, drop-drop, take_at, join_with_byte-slice_split, length-slice_split, slice_split_first, passes_at_first, Circuit, Words, line_of, Field, Flaw, Unknown, Unfit, Large, EachWord, IsFirstFlaw, IsFit, IsFormed, IsKnown, IsWithin, LineHasFlaw, WordHasFlaw, sooner_flaw, ReportFault, BadLine, Missing, LineForm, Scale, fields_of, HasFirstFault, is_line_feed, spaced_words, flaw_fault, IsFlawless, Left, TakesLine, Reads, ReadsLine, Stops, StopsLine, none-some, same_Some}
use Rattle.report_text.specs.declared.field.Flaw.TheVariants.{Form as Malformed}
use Rattle.report_text.proofs.OneLine.{IsLine, Lacks, words_cut, words_lack}

-- ---- of two

-- what holds of both is what holds of the one and of the other; so their first flaw is the sooner
module _ {F F' F'' K K' K'' I I' I'' W W' W'' : Type 0} (f : F'' ↔ (F × F')) (k : K'' ↔ (K × K'))
    (i : I'' ↔ (I × I')) (w : W'' ↔ (W × W')) where
  pub sooner_of : (first second : Option Flaw) → IsFirstFlaw F K I W first
      → IsFirstFlaw F' K' I' W' second → IsFirstFlaw F'' K'' I'' W'' (sooner_flaw first second)
  sooner_of None None h g = search (arith, f.1, k.1, i.1, w.1)
  sooner_of (Some Malformed) (Some Malformed) h g = search (arith, f.0)
  sooner_of (Some Unknown) (Some Unknown) h g = search (arith, f.1, k.0)
  sooner_of (Some Unfit) (Some Unfit) h g = search (arith, f.1, k.1, i.0)
  sooner_of (Some Large) (Some Large) h g = search (arith, f.1, k.1, i.1, w.0)
  sooner_of first second h g = search (arith, f.0, f.1, k.0, k.1, i.0, i.1, w.0, w.1)

-- ---- one flaw

-- of the four one fails first
module _ (F K I W : Type 0) where
  pub one_first_flaw : (flaw other : Option Flaw) → IsFirstFlaw F K I W flaw
      → IsFirstFlaw F K I W other → flaw ≡ other
  one_first_flaw None None h g = refl
  one_first_flaw (Some Malformed) (Some Malformed) h g = refl
  one_first_flaw (Some Unknown) (Some Unknown) h g = refl
  one_first_flaw (Some Unfit) (Some Unfit) h g = refl
  one_first_flaw (Some Large) (Some Large) h g = refl
  one_first_flaw flaw other h g = search arith

-- two flaws of a line are the same
pub one_flaw : (circuit : Circuit) (fields : List Field) (words : List (List ℕ))
    (flaw other : Option Flaw) → LineHasFlaw circuit fields words flaw
    → LineHasFlaw circuit fields words other → flaw ≡ other
one_flaw circuit fields words flaw other has has' = search (arith, one_first_flaw)

-- ---- a line from its first word on

-- its first flaw is that of its first word or of those after it
pub line_first : (circuit : Circuit) (due : Field) (fields : List Field) (word : List ℕ)
    (words : List (List ℕ)) (flaw found : Option Flaw) → WordHasFlaw circuit due word flaw
    → LineHasFlaw circuit fields words found
    → LineHasFlaw circuit (due ∷ fields) (word ∷ words) (sooner_flaw flaw found)
line_first circuit due fields word words flaw found has has' =
    sooner_of (parts IsFormed) (parts (IsKnown circuit)) (parts (IsFit circuit)) (parts IsWithin)
    flaw found has has'
  where
    parts : (Holds : Field → List ℕ → Type 0) → EachWord Holds (due ∷ fields) (word ∷ words)
        ↔ (Holds due word × EachWord Holds fields words)
    parts Holds = (λ each. each, λ each. each)

-- the first byte that passes stands before the end
pub cut_within : (p : ℕ → Bool) (text : List ℕ) (end : ℕ) → position p text ≡ Some end
    → (position_or_len p text ≡ end) × (end < length text)
cut_within p text end found = (grind (arith, nat_tests), grind (arith, nat_tests))

-- the first part ends there
pub first_part : (p : ℕ → Bool) (text : List ℕ) (end : ℕ) → position p text ≡ Some end
    → slice_split p text ≡ take end text ∷ slice_split p (drop 1 (drop end text))
first_part p text end found =
    let place = cut_within p text end found in
    let at : position_or_len p text ≡ end = place.0 in
    let within : position_or_len p text < length text = omega (arith, place.1) in
    let after : drop (end + 1) text ≡ drop 1 (drop end text) = sym (drop-drop 1 end text) in
    rw (slice_split_first p text 0 within, at, after) refl

-- what is left is its first byte, and what stands after that
pub byte_then : (text : List ℕ) (place : ℕ) → place < length text
    → drop place text ≡ get_or text place 0 ∷ drop 1 (drop place text)
byte_then text place within = rw (drop-cons text place 0 within) refl

-- the first line feed, and what stands after it
feed_then : (text : List ℕ) (end : ℕ) → position is_line_feed text ≡ Some end
    → drop end text ≡ 10 ∷ drop (end + 1) text
feed_then text end found =
    let place = cut_within _ _ _ found in
    let passes = passes_at_first is_line_feed text 0
    (subst (λ n. n < length text) (sym place.0) place.1) in
    let feed : get_or text end 0 ≡ 10 = subst (λ n. get_or text n 0 ≡ 10) place.0
    (grind (arith, nat_tests, passes)) in
    byte_then _ _ place.1 ∙ ap₂ (λ byte rest. byte ∷ rest) feed (drop-drop 1 end text)

module _ {old new : Left} {line : List ℕ} (taken : TakesLine old line new) where
  -- what was left is the line, its line feed and what is left now
  line_then : old.text ≡ line ++ 10 ∷ new.text
  line_then =
      sym (take-append-drop (length line) old.text) ∙ ap₂ (λ prefix rest. prefix ++ rest)
      (sym taken.line_is) (feed_then _ _ taken.end ∙ ap (λ rest. 10 ∷ rest) (sym taken.text))

  -- the line is the first of those that were left
  line_cut : slice_split is_line_feed old.text ≡ line ∷ slice_split is_line_feed new.text
  line_cut =
      first_part _ _ _ taken.end ∙ ap₂ (λ first rest. first ∷ slice_split is_line_feed rest)
      (sym taken.line_is) (drop-drop 1 (length line) old.text ∙ sym taken.text)

  -- a line that has no flaw by the form that is due
  pub line_read : (circuit : Circuit) (scale : Scale) (form : LineForm) (words : Words)
      → words ≡ spaced_words line → IsFlawless circuit scale form words
      → ReadsLine circuit scale form words old new
  line_read circuit scale form words words_are flawless =
      let is_line : line_of words ≡ line ++ 10 ∷ [] = ap line_of words_are
      ∙ ap (λ bytes. bytes ++ 10 ∷ []) (join_with_byte-slice_split 32 line) in
      record {
        some = subst (λ ws. 0 < length ws) (sym words_are)
            (omega (arith, length-slice_split (λ byte. byte == 32) line));
        flawless = flawless;
        read = λ other flawless'. record {
          text =
              line_then ∙ sym (append_assoc line (10 ∷ []) new.text)
              ∙ ap (λ bytes. bytes ++ new.text) (sym is_line ∙ sym (append-nil (line_of words)));
          words =
              ap (map spaced_words) line_cut
              ∙ ap (λ ws. ws ∷ map spaced_words (slice_split is_line_feed new.text))
              (sym words_are);
          number = taken.number;
          faults = λ more fault found. rw (taken.some, taken.end) (
            None,
            subst (λ ws. IsFlawless circuit other form ws)
                (words_are ∙ ap spaced_words taken.line_is) flawless',
            subst (λ n. HasFirstFault circuit other more n (drop (length line + 1) old.text) fault)
                taken.number
                (subst (λ t. HasFirstFault circuit other more new.line t fault) taken.text found),
          );
        };
      }

-- nothing is read
pub read_none : (circuit : Circuit) (scale : Scale) (left : Left)
    → Reads circuit scale [] [] left left
read_none circuit scale left = search arith

module _ {circuit : Circuit} {scale : Scale} {forms : List LineForm} {lines : List Words}
    {old between : Left} (first : Reads circuit scale forms lines old between) where
  -- lines, and more after them
  pub read_more : (forms' : List LineForm) (lines' : List Words) (new : Left)
      → Reads circuit scale forms' lines' between new
      → Reads circuit scale (forms ++ forms') (lines ++ lines') old new
  read_more forms' lines' new second = search (arith, append_assoc, flat_map-append, length-append)

  -- lines, and a fault after them
  pub stop_after : (forms' : List LineForm) (fault : ReportFault)
      → Stops circuit scale forms' between fault → Stops circuit scale (forms ++ forms') old fault
  stop_after forms' fault stops memory more = search (arith, append_assoc)

-- a fault is the first whatever is to follow
pub stop_before : (circuit : Circuit) (scale : Scale) (forms forms' : List LineForm) (left : Left)
    (fault : ReportFault) → Stops circuit scale forms left fault
    → Stops circuit scale (forms ++ forms') left fault
stop_before circuit scale forms forms' left fault stops memory more = search (arith, append_assoc)

-- the fault of a text whose first line ends there, by the flaw of that line
abbrev pub IsJudged : Circuit → Scale → (due : LineForm) (more : List LineForm) (line : ℕ)
    (text : List ℕ)
    → Option ReportFault → (end : ℕ) → Type 0
IsJudged circuit scale due more line text fault end = (flaw : Option Flaw) × LineHasFlaw circuit
    (fields_of circuit scale due (spaced_words (take end text))) (spaced_words (take end text)) flaw
    × MatchOption flaw (HasFirstFault circuit scale more (line + 1) (drop (end + 1) text) fault)
    (λ found. fault ≡ Some (flaw_fault due line found))

-- and by where that line ends
abbrev pub IsFaultAt : Circuit → Scale → (due : LineForm) (more : List LineForm) (line : ℕ)
    (text : List ℕ)
    → Option ReportFault → (none : Bool) (end : Option ℕ) → Type 0
IsFaultAt circuit scale due more line text fault none end =
    MatchBool none (fault ≡ Some (Missing line)) (MatchOption end (fault ≡ Some (BadLine line))
    (IsJudged circuit scale due more line text fault))

-- a fault of the next line is the first, whatever is to follow
pub stop_line : (circuit : Circuit) (scale : Scale) (form : LineForm) (left : Left)
    (fault : ReportFault) → StopsLine circuit scale form left fault
    → Stops circuit scale (form ∷ []) left fault
stop_line circuit scale form left fault stops memory more =
    at (length left.text == 0) (position is_line_feed left.text) (stops memory)
  where
    at : (none : Bool) (end : Option ℕ) → MatchBool none (fault ≡ Missing left.line)
        (MatchOption end (fault ≡ BadLine left.line) (λ n. (flaw : Flaw) × LineHasFlaw circuit
        (fields_of circuit scale form (spaced_words (take n left.text))) (spaced_words
        (take n left.text))
        (Some flaw) × (fault ≡ flaw_fault form left.line flaw)))
        → IsFaultAt circuit scale form more left.line left.text (Some fault) none end
    at true end is = ap Some is
    at false None is = ap Some is
    at false (Some n) (flaw, has, is) = (Some flaw, has, ap Some is)

-- `?` passes a fault on as it is
pub passed_on : {T E : Type 0} (result : Result T E) (fault : E) (P : E → Type 0)
    → IsErrAnd result (λ passed. passed ≡ fault) → P fault → IfErr result P
passed_on (Ok value) fault P is p = tt
passed_on (Err passed) fault P is p = subst P (sym is) p

-- forms that are due one after the other
module _ (forms due : ℕ → List LineForm) (step : (n : ℕ) → forms (n + 1) ≡ forms n ++ due n) where
  forms_after : (place more : ℕ) → (rest : List LineForm) × (forms (place + more) ≡ forms place
      ++ rest)
  forms_after place zero = search (arith, append-nil)
  forms_after place (suc more) =
      let suffix = forms_after place more in (
        suffix.0 ++ due (place + more),
        ap forms (omega arith) ∙ step (place + more)
            ∙ ap (λ prefix. prefix ++ due (place + more)) suffix.1
            ∙ append_assoc (forms place) suffix.0 (due (place + more)),
      )

-- and are read
module _ {circuit : Circuit} {scale : Scale} (forms due : ℕ → List LineForm)
    (step : (n : ℕ) → forms (n + 1) ≡ forms n ++ due n) where
  -- the next of them are read
  pub next_read : (place : ℕ) (lines next all : List Words) (old between new : Left)
      → Reads circuit scale (forms place) lines old between
      → Reads circuit scale (due place) next between new → all ≡ lines ++ next
      → Reads circuit scale (forms (place + 1)) all old new
  next_read place lines next all old between new read further is =
      subst (λ fs. Reads circuit scale fs all old new) (sym (step place))
      (subst (λ ls. Reads circuit scale (forms place ++ due place) ls old new) (sym is)
      (read_more read (due place) next new further))

  -- the next of them have the first fault
  pub next_stops : (place count : ℕ) (lines : List Words) (old between : Left)
      (fault : ReportFault) → place < count → Reads circuit scale (forms place) lines old between
      → Stops circuit scale (due place) between fault → Stops circuit scale (forms count) old fault
  next_stops place count lines old between fault within read stops =
      let suffix = forms_after _ due step (place + 1) (count - (place + 1)) in
      subst (λ fs. Stops circuit scale fs old fault) (ap (λ prefix. prefix ++ suffix.0)
      (sym (step place)) ∙ sym suffix.1 ∙ ap forms (omega arith)) (stop_before circuit _
      (forms place ++ due place) suffix.0 old _ (stop_after read (due place) _ stops))

-- ---- one fault

-- two first faults of a text by the same forms are the same
pub one_first_fault : (circuit : Circuit) (scale : Scale) (forms : List LineForm) (line : ℕ)
    (text : List ℕ) (fault other : Option ReportFault)
    → HasFirstFault circuit scale forms line text fault
    → HasFirstFault circuit scale forms line text other → fault ≡ other
one_first_fault circuit scale [] line text fault other is is' = is ∙ sym is'
one_first_fault circuit scale (due ∷ more) line text fault other is is' =
    at (length text == 0) (position is_line_feed text)
    (λ end. one_first_fault circuit scale more (line + 1) (drop (end + 1) text) fault other) is is'
  where
    at : (none : Bool) (end : Option ℕ)
        → ((end : ℕ) → HasFirstFault circuit scale more (line + 1) (drop (end + 1) text) fault
        → HasFirstFault circuit scale more (line + 1) (drop (end + 1) text) other → fault ≡ other)
        → IsFaultAt circuit scale due more line text fault none end
        → IsFaultAt circuit scale due more line text other none end → fault ≡ other
    at true end later is is' = is ∙ sym is'
    at false None later is is' = is ∙ sym is'
    at false (Some end) later (None, has, is) (None, has', is') = later end is is'
    at false (Some end) later (Some flaw, has, is) (Some flaw', has', is') =
        is ∙ ap (λ f. Some (flaw_fault due line f))
        (same_Some flaw flaw' (one_flaw circuit _ _ _ _ has has')) ∙ sym is'
    at false (Some end) later (None, has, is) (Some flaw, has', is') =
        absurd (none-some flaw (one_flaw circuit _ _ None (Some flaw) has has'))
    at false (Some end) later (Some flaw, has, is) (None, has', is') =
        absurd (none-some flaw (sym (one_flaw circuit _ _ (Some flaw) None has has')))

-- ---- the next line

-- the first place of a byte
pub first_place : (byte : ℕ) (bytes rest : List ℕ) → Lacks byte bytes
    → position_or_len (λ other. other == byte) (bytes ++ byte ∷ rest) ≡ length bytes
first_place byte [] rest lacks = search (arith, eq-eqb)
first_place byte (first ∷ bytes) rest lacks = search (arith, first_place byte bytes rest lacks.1)

-- what stands after it
pub after_place : (byte : ℕ) (bytes rest : List ℕ)
    → drop (length bytes + 1) (bytes ++ byte ∷ rest) ≡ rest
after_place byte [] rest = refl
after_place byte (first ∷ bytes) rest = search (arith, after_place byte bytes rest)

-- the first line feed
feed_found : (bytes rest : List ℕ) → Lacks 10 bytes
    → position is_line_feed (bytes ++ 10 ∷ rest) ≡ Some (length bytes)
feed_found bytes rest lacks = search (arith, nat_lt, first_place, lt-ltb, length-append)

-- it is read where it has these words, without a flaw
pub line_reads : (circuit : Circuit) (scale : Scale) (due : LineForm) (words : Words) (old : Left)
    (rest : List ℕ) → IsLine words → IsFlawless circuit scale due words
    → old.text ≡ line_of words ++ rest
    → ReadsLine circuit scale due words old (record { line = old.line + 1; text = rest })
line_reads circuit scale due words old rest is flawless text =
    let bytes : List ℕ = join_with_byte 32 words in
    let cut : old.text ≡ bytes ++ 10 ∷ rest = text ∙ append_assoc bytes (10 ∷ []) rest in
    let taken : TakesLine old bytes (record { line = old.line + 1; text = rest }) = record {
      some = ne_eqb (length old.text) 0
          (λ none. omega (arith, none, ap length cut, length-append bytes (10 ∷ rest)));
      end = ap (position is_line_feed) cut ∙ feed_found bytes rest (words_lack words is);
      line_is = sym (ap (take (length bytes)) cut ∙ take_at bytes (10 ∷ rest) (length bytes) refl);
      text = sym (ap (drop (length bytes + 1)) cut ∙ after_place 10 bytes rest);
      number = refl;
    } in
    line_read taken circuit scale due words (sym (words_cut words is)) flawless
