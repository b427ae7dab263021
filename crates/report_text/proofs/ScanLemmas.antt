-- Words that are taken one after the other, and a line that is read to its end.
use Rattle.report_text.proofs.Vocabulary.{◌≡◌, ◌<◌, ◌≤◌, ℕ, nat_le, Bool, true, false, true≢false, if◌then◌else◌, List, [], ◌∷◌, ◌++◌, drop, length, Option, Some, None, Result, Ok, Err, IfOk, refl, sym, ap, ◌∙◌, subst, append_assoc, append-nil, length-append, arith, ◌+◌, ◌^◌, ℤ, pos, cond, All, map, replicate, codes, ◌*◌, get_or, set, take, signed_decimal, flat_map, le-leb, leb-true, nat_tests, drop-drop, map_push, replicate_more, drop-set-lt, drop_more, length-set, replicate-append-replicate, take_more_set, length-slice_split, none-some, All-nil, All-push, All-rest, All-same, flat_map-append, Circuit, Words, constraint_line, line_for, Constraint, Version, First, Second, IsBelow, IsPointBelow, HasSmallWeight, IsBetweenRegisters, path_line, signal_name, origin, Point, Field, Flaw, LineForm, Scale, LineHasFlaw, WordHasFlaw, rank, sooner_flaw, fields_of, constraint_fields, length_field, ReportFault, flaw_fault, spaced_words, Left, ReadsLine, StopsLine, TakesLine, EndsIn, Keeps, LineLeft, ReadsForm, Takes, TakesNext, flaw_in, version_text, DenotesConstraint, DenotesPath, coordinates, version_line, Bor}
use Rattle.cts_model.specs.Vocabulary.{ArePadded}
use Rattle.report_text.specs.declared.field.Flaw.TheVariants as flaws
use Rattle.report_text.specs.LineFields as field
use Rattle.report_text.proofs.WalkLemmas.{line_first, line_read}

-- ---- of flaws the sooner

none_sooner : (flaw : Option Flaw) → sooner_flaw None flaw ≡ flaw
none_sooner None = refl
none_sooner (Some flaws.Form) = refl
none_sooner flaw = refl

-- a wrong form is the soonest
sooner_form : (flaw : Option Flaw) → sooner_flaw flaw (Some flaws.Form) ≡ Some flaws.Form
sooner_form None = refl
sooner_form (Some flaws.Form) = refl
sooner_form flaw = refl

form_sooner : (flaw : Option Flaw) → sooner_flaw (Some flaws.Form) flaw ≡ Some flaws.Form
form_sooner None = refl
form_sooner (Some flaws.Form) = refl
form_sooner flaw = refl

-- of three it doesn't matter which two are compared first
sooner_assoc : (first second third : Option Flaw)
    → sooner_flaw (sooner_flaw first second) third ≡ sooner_flaw first (sooner_flaw second third)
sooner_assoc first second third = grind (arith, nat_tests)

-- where the sooner of two is none, neither is there
sooner_sound : (first second : Option Flaw) → sooner_flaw first second ≡ None
    → (first ≡ None) × (second ≡ None)
sooner_sound first second is = at first second (nat_le (rank first) (rank second)) refl is
  where
    last : (flaw : Option Flaw) → rank None ≤ rank flaw → flaw ≡ None
    last None from = refl
    last (Some flaws.Form) from = absurd (omega (arith, from))
    last flaw from = absurd (omega (arith, from))

    at : (first second : Option Flaw) (sooner : Bool) → nat_le (rank first) (rank second) ≡ sooner
        → (if sooner then first else second) ≡ None → (first ≡ None) × (second ≡ None)
    at first second true le is = search (arith, last, leb-true, nat_le)
    at first second false more is =
        let le : nat_le (rank first) (rank None) ≡ true = le-leb (rank first) 4 (most first) in
        absurd (true≢false (sym le ∙ ap (λ (f : Option Flaw). nat_le (rank first) (rank f)) (sym is)
        ∙ more))
      where
        most : (flaw : Option Flaw) → rank flaw ≤ 4
        most None = omega arith
        most (Some flaws.Form) = omega arith
        most flaw = omega arith

-- ---- one word

module _ {X : Type 0} (circuit : Circuit) (due : Field) {old between new : LineLeft}
    {word : List ℕ} {read : Result X Flaw} {given : X} (next : TakesNext word old between)
    (flaw : WordHasFlaw circuit due word (flaw_in read)) (kept : Keeps read given between new)
  where
    -- what is wrong with the line is wrong with the word or with those after it
    word_judged : (more : List Field) (all : Option Flaw) → EndsIn circuit more new all
        → EndsIn circuit (due ∷ more) old all
    word_judged more all (found, has, is) = at old.words refl
      where
        at : (words : Words) → old.words ≡ words → EndsIn circuit (due ∷ more) old all
        at [] none =
            let (words, form) = next.none none in (
              Some flaws.Form,
              subst (λ (ws : Words). LineHasFlaw circuit (due ∷ more) ws (Some flaws.Form))
                  (sym none) (λ each. each),
              is ∙ ap (λ f. sooner_flaw f found) (kept.flaw
                  ∙ ap (λ f. sooner_flaw f (flaw_in read)) form ∙ form_sooner (flaw_in read))
                  ∙ form_sooner found ∙ sym (sooner_form old.flaw),
            )
        at (first ∷ rest) some =
            let (words, same) = next.some (subst (λ (ws : Words). 0 < length ws) (sym some)
            (omega arith)) in (
              sooner_flaw (flaw_in read) found,
              subst (λ (ws : Words). LineHasFlaw circuit (due ∷ more) ws
                  (sooner_flaw (flaw_in read) found)) (sym words)
                  (line_first circuit due more word between.words (flaw_in read) found flaw
                  (subst (λ (ws : Words). LineHasFlaw circuit more ws found) kept.words has)),
              is ∙ ap (λ f. sooner_flaw f found) (kept.flaw
                  ∙ ap (λ f. sooner_flaw f (flaw_in read)) same)
                  ∙ sooner_assoc old.flaw (flaw_in read) found,
            )

    -- one word is taken
    word_rest : new.words ≡ drop 1 old.words
    word_rest = at old.words refl
      where
        at : (words : Words) → old.words ≡ words → new.words ≡ drop 1 old.words
        at [] none = kept.words ∙ (next.none none).0 ∙ sym (ap (drop 1) none)
        at (first ∷ rest) some =
            let (words, same) = next.some (subst (λ (ws : Words). 0 < length ws) (sym some)
            (omega arith)) in
            kept.words ∙ sym (ap (drop 1) words)

    -- by its field; where nothing is wrong it is that of its value
    pub takes_word : (text : X → List ℕ) (Holds : X → Type 0)
        → IfOk read (λ value. (word ≡ text value) × Holds value)
        → Takes circuit (due ∷ []) (text given ∷ []) (Holds given) old new
    takes_word text Holds spells = record {
      rest = word_rest;
      judged = word_judged;
      taken = λ none.
          let (sound, ok) = sooner_sound between.flaw (flaw_in read) (sym kept.flaw ∙ none) in
          at read kept.value ok spells old.words refl sound;
    }
      where
        at : (read : Result X Flaw) → IfOk read (λ value. given ≡ value) → flaw_in read ≡ None
            → IfOk read (λ value. (word ≡ text value) × Holds value)
            → (words : Words) → old.words ≡ words → between.flaw ≡ None
            → (old.flaw ≡ None) × (old.words ≡ text given ∷ [] ++ new.words) × Holds given
        at (Ok value) same ok spells [] none sound = search (arith, none-some)
        at (Ok value) same ok spells (first ∷ rest) some sound = search arith
        at (Err flaw) same ok spells words are sound = absurd (none-some flaw (sym ok))

    -- and where that is all that is wanted
    pub takes_text : (text : X → List ℕ) → IfOk read (λ value. word ≡ text value)
        → Takes circuit (due ∷ []) (text given ∷ []) (Unit {0}) old new
    takes_text text spells = takes_word text (λ value. Unit {0}) (at read spells)
      where
        at : (read : Result X Flaw) → IfOk read (λ value. word ≡ text value)
            → IfOk read (λ value. (word ≡ text value) × Unit {0})
        at (Ok value) is = (is, tt)
        at (Err flaw) is = tt

-- ---- several words

pub takes_none : (circuit : Circuit) (left : LineLeft) → Takes circuit [] [] (Unit {0}) left left
takes_none circuit left = search arith

-- words, and more after them
pub takes_then : {circuit : Circuit} {fields fields' : List Field} {texts texts' : Words}
    {Holds Holds' : Type 0} {old between new : LineLeft}
    → Takes circuit fields texts Holds old between → Takes circuit fields' texts' Holds' between new
    → Takes circuit (fields ++ fields') (texts ++ texts') (Holds × Holds') old new
takes_then {circuit} {fields} {fields'} {texts} {texts'} {Holds} {Holds'} {old} {between} {new}
    first second = record {
      rest =
          second.rest ∙ ap (drop (length fields')) first.rest
          ∙ drop-drop (length fields') (length fields) old.words
          ∙ ap (λ n. drop n old.words) (sym (length-append fields fields'));
      judged = λ more flaw ends.
          subst (λ fs. EndsIn circuit fs old flaw) (sym (append_assoc fields fields' more))
          (first.judged (fields' ++ more) flaw (second.judged more flaw ends));
      taken = λ none.
          let (between_sound, between_words, between_holds) = second.taken none in
          let (sound, words, holds) = first.taken between_sound in (
            sound,
            words ∙ ap (λ ws. texts ++ ws) between_words
                ∙ sym (append_assoc texts texts' new.words),
            (holds, between_holds),
          );
    }

-- words are taken, and what follows from what holds of them holds too
pub takes_so : {circuit : Circuit} {fields : List Field} {texts : Words} {Holds Follows : Type 0}
    {old new : LineLeft} → Takes circuit fields texts Holds old new → (Holds → Follows)
    → Takes circuit fields texts Follows old new
takes_so takes follow = search arith

-- ---- the end

pub ends_some : (circuit : Circuit) (left : LineLeft) → 0 < length left.words
    → EndsIn circuit [] left (Some flaws.Form)
ends_some circuit left some =
    (Some flaws.Form, at left.words some, sym (sooner_form left.flaw))
  where
    at : (words : Words) → 0 < length words → LineHasFlaw circuit [] words (Some flaws.Form)
    at [] some = absurd (omega (arith, some))
    at (word ∷ words) some = λ each. each

-- what is wrong with a line that is read from its first word on
pub whole_line : (circuit : Circuit) (fields : List Field) (words : Words) (flaw : Option Flaw)
    → EndsIn circuit fields (record { words = words; flaw = None }) flaw
    → LineHasFlaw circuit fields words flaw
whole_line circuit fields words flaw (found, has, is) = search (arith, none_sooner)

-- all words of a form
pub form_read : {circuit : Circuit} {scale : Scale} {form : LineForm} {fields : List Field}
    {texts : Words} {Holds : Type 0} {old new : LineLeft} {Says : Words → Type 0}
    → fields_of circuit scale form old.words ≡ fields → Takes circuit fields texts Holds old new
    → (old.words ≡ texts → Holds → Says old.words) → ReadsForm circuit scale form Says old new
form_read {circuit} {scale} {form} {fields} {texts} {Holds} {old} {new} are takes says = record {
  judged = λ flaw ends.
      subst (λ fs. EndsIn circuit fs old flaw) (append-nil fields ∙ sym are)
      (takes.judged [] flaw ends);
  says = λ none left.
      let (sound, words, holds) = takes.taken none in
      says (words ∙ ap (λ ws. texts ++ ws) left ∙ append-nil texts) holds;
}

-- ---- a line of a text

module _ (line : List ℕ) {items slice : List (Bor (List ℕ))} (same : slice ≡ items)
    (read : map (λ word. word.now) items ≡ spaced_words line) {start : LineLeft}
    (begins : start ≡ record { words = map (λ word. word.now) slice; flaw = None }) where
  abbrev words : Words
  words = map (λ word. word.now) slice

  are : words ≡ spaced_words line
  are = ap (map (λ word. word.now)) same ∙ read

  -- it has a word
  pub some_words : 0 < length start.words
  some_words = search (arith, are, length-slice_split)

  module _ {circuit : Circuit} {scale : Scale} {form : LineForm} {old new : Left}
      (takes : TakesLine old line new) {Says : Words → Type 0} {left : LineLeft}
      (reads : ReadsForm circuit scale form Says start left) where
    -- what is wrong with it
    line_judged : (flaw : Option Flaw) → EndsIn circuit [] left flaw
        → LineHasFlaw circuit (fields_of circuit scale form words) words flaw
    line_judged flaw ends = whole_line circuit (fields_of circuit scale form words) words flaw
        ((subst (λ from. ReadsForm circuit scale form Says from left) begins reads).judged flaw
        ends)

    -- where nothing is, its words say what was read
    pub line_says : EndsIn circuit [] left None → (left.flaw ≡ None) × (left.words ≡ [])
        → ReadsLine circuit scale form words old new × Says words
    line_says ends sound = (
      line_read takes circuit scale form words are (line_judged None ends),
      (subst (λ from. ReadsForm circuit scale form Says from left) begins reads).says sound.0
          sound.1,
    )

    -- and else that is the fault of the text
    pub line_stops : (flaw : Flaw) (fault : ReportFault) → EndsIn circuit [] left (Some flaw)
        → fault ≡ flaw_fault form old.line flaw → StopsLine circuit scale form old fault
    line_stops flaw fault ends is memory = rw (takes.some, takes.end) (
      flaw,
      subst (λ (ws : Words). LineHasFlaw circuit (fields_of circuit scale form ws) ws (Some flaw))
          (are ∙ ap spaced_words takes.line_is) (line_judged (Some flaw) ends),
      is,
    )

pub version_read : {words : Words} (version : Version)
    → words ≡ codes "cts" ∷ version_text version ∷ [] → words ≡ version_line version
version_read First are = are
version_read Second are = are

-- the words of a constraint, by its kind
pub constraint_read : {circuit : Circuit} {words : Words} {launch capture : ℕ} {weight : ℤ}
    (setup : Bool)
    → words ≡ constraint_line (cond setup (codes "setup") (codes "hold")) circuit launch capture
    weight → launch < length circuit.registers → capture < length circuit.registers
    → IsBelow (10 ^ 12) weight → DenotesConstraint circuit words (record {
      setup = setup;
      tail = cond setup launch capture;
      head = cond setup capture launch;
      weight = weight;
    })
constraint_read true are launches captures small = search (are, launches, captures, small)
constraint_read false are launches captures small = search (are, launches, captures, small)

pub constraint_taken : {circuit : Circuit} {launch capture : ℕ} {weight : ℤ} {old new : LineLeft}
    (setup : Bool) → Takes circuit constraint_fields
    (constraint_line (cond setup (codes "setup") (codes "hold")) circuit launch capture weight)
    (Unit {0} × ((launch < length circuit.registers)
    × ((capture < length circuit.registers) × IsBelow (10 ^ 12) weight))) old new
    → (constraint : Constraint) → constraint ≡ record {
      setup = setup;
      tail = cond setup launch capture;
      head = cond setup capture launch;
      weight = weight;
    } → Takes circuit constraint_fields (line_for circuit constraint)
    (IsBetweenRegisters (length circuit.registers) constraint × HasSmallWeight constraint) old new
constraint_taken {circuit} {launch} {capture} {weight} {old} {new} setup takes constraint is =
    search arith

-- ---- paths

-- so many names of signals are taken
abbrev pub TakesSignals : Circuit → (count : ℕ) (signals : List ℕ) (old new : LineLeft) → Type 0
TakesSignals circuit count signals old new = (length signals ≡ count)
    × Takes circuit (replicate count field.Signal) (map (signal_name circuit) signals)
    (All (λ number. number < length circuit.signals) signals) old new

module _ (circuit : Circuit) where
  -- they are signals of the circuit
  abbrev pub among : List ℕ → Type 0
  among = All (λ number. number < length circuit.signals)

  pub no_signals : (left : LineLeft) → TakesSignals circuit 0 [] left left
  no_signals left = search (arith, takes_so, All-nil)

  pub signals_next : {count signal : ℕ} (signals : List ℕ) {signals' : List ℕ}
      {old between new : LineLeft} → TakesSignals circuit count signals old between
      → Takes circuit (field.Signal ∷ []) (signal_name circuit signal ∷ [])
      (signal < length circuit.signals) between new → signals' ≡ signals ++ signal ∷ []
      → TakesSignals circuit (count + 1) signals' old new
  signals_next {count} {signal} signals {signals'} {old} {between} {new} first next is =
      subst (λ all. TakesSignals circuit (count + 1) all old new) (sym is) (
        length-append signals (signal ∷ []) ∙ omega (arith, first.0),
        subst (λ (fields : List Field). Takes circuit fields
            (map (signal_name circuit) (signals ++ signal ∷ []))
            (among (signals ++ signal ∷ [])) old new) (replicate_more count field.Signal)
            (subst (λ (texts : Words). Takes circuit (replicate count field.Signal
            ++ field.Signal ∷ []) texts (among (signals ++ signal ∷ [])) old new)
            (sym (map_push (signal_name circuit) signals signal)) all),
      )
    where
      all : Takes circuit (replicate count field.Signal ++ field.Signal ∷ [])
          (map (signal_name circuit) signals ++ signal_name circuit signal ∷ [])
          (among (signals ++ signal ∷ [])) old new
      all = takes_so (takes_then first.1 next) (λ holds.
          All-push (λ number. number < length circuit.signals) signals signal holds.0 holds.1)

  -- the words of a path that is printed
  pub path_read : {count : ℕ} {words : Words} (path : List ℕ) → length path ≡ count
      → 1 ≤ count → count ≤ 65536 → among path
      → words ≡ codes "path" ∷ signed_decimal (pos count) ∷ map (signal_name circuit) path
      → DenotesPath circuit words path
  path_read {count} {words} path long some few within are = record {
    line = printed path (omega (arith, some, long)) (are ∙ ap (λ n. codes "path" ∷ signed_decimal
        (pos n) ∷ map (signal_name circuit) path) (sym long));
    signals = within;
    few = omega (arith, few, long);
  }
    where
      printed : (path : List ℕ) → 1 ≤ length path
          → words ≡ codes "path" ∷ signed_decimal (pos (length path))
          ∷ map (signal_name circuit) path → words ≡ path_line circuit path
      printed [] some is = absurd (omega (arith, some))
      printed (first ∷ more) some is = is

-- so many of the five points are read
pub record HasRead (scale : Scale) (start : LineLeft) (count : ℕ) (corners : List Point)
    (now : LineLeft) : Type 0 where
  pub padded : ArePadded (record { corners = corners; used = count })
  pub taken : (circuit : Circuit) → Takes circuit (replicate (2 * count) (length_field scale))
      (flat_map (coordinates scale.grid) (take count corners))
      (All (IsPointBelow (10 ^ 32)) (take count corners)) start now

-- and one more
pub corner_read : (scale : Scale) (start : LineLeft) (count : ℕ) (corners : List Point)
    (point : Point) (between new : LineLeft) → HasRead scale start count corners between → count < 5
    → ((circuit : Circuit) → Takes circuit (length_field scale ∷ length_field scale ∷ [])
    (coordinates scale.grid point) (IsPointBelow (10 ^ 32) point) between new)
    → HasRead scale start (count + 1) (set corners count point) new
corner_read scale start count corners point between new has within next =
    let few : count < length corners = omega (arith, has.padded.all, within) in
    let more = take_more_set corners count point few in
    let field = length_field scale in
    record {
      padded = record {
        all = length-set corners count point ∙ has.padded.all;
        rest = All-same (λ corner. corner ≡ origin) (drop (count + 1) (set corners count point))
            (drop (count + 1) corners) (drop-set-lt (count + 1) corners count point (omega arith))
            (All-rest (λ corner. corner ≡ origin) (get_or corners count origin)
            (drop (count + 1) corners) (drop count corners) (drop_more corners count origin few)
            has.padded.rest);
      };
      taken = λ circuit.
          let two = takes_then (has.taken circuit) (next circuit) in
          subst (λ fields. Takes circuit fields (flat_map (coordinates scale.grid) (take (count + 1)
          (set corners count point))) (All (IsPointBelow (10 ^ 32)) (take (count + 1)
          (set corners count point))) start new) (replicate-append-replicate (2 * count) 2 field
          ∙ ap (λ n. replicate n field) (omega arith))
          (rw (more, flat_map-append (coordinates scale.grid) (take count corners) (point ∷ []))
          (takes_so two (λ holds. All-push (IsPointBelow (10 ^ 32)) (take count corners) point
          holds.0 holds.1)));
    }
