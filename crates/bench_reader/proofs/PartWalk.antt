-- The walk that takes in what each line says, where the names of all lines are known.
use Rattle.bench_reader.proofs.Vocabulary.{◌≡◌, ℕ, suc, ◌+◌, ◌<◌, ◌≤◌, true, drop, get_or, List, [], ◌∷◌, ◌++◌, length, Some, None, ap, refl, sym, ◌∙◌, subst, arith, length-append, append_assoc, filter_map, get_or-map, length-map, length_push, filter_map-append, first_fault, first_fault_after, lines_of, flawless_at, Statement, statement_of, definition_of, statements_in, definitions_in, signal_of, CircuitParts, Undefined, IsReading, kept_of, said_in, HasParts, said_by, bench_line_fault, has_kind, use_fault, UsesDefined}
use Rattle.std.proofs.Math.Seq.{drop-cons}
use Rattle.bench_reader.specs.declared.said.Said.{Said}
use Rattle.bench_reader.proofs.AddedParts.{silents_denoted}
use Rattle.bench_reader.proofs.FlawlessLines.{sound_line}
use Rattle.bench_reader.proofs.SaidLemmas.{IsNextSaid, all_silent, next_said}
use Rattle.bench_reader.proofs.UseFaults.{undefined_first}
use Rattle.bench_reader.proofs.ValidDefinitions.{valid_lines}

-- this is what the lines so far tell, and this is left of what lines say
pub record DenotesPassed (text : List ℕ) (names : List (List ℕ)) (left : List (ℕ × Statement))
    (parts : CircuitParts) : Type 0 where
  pub passed : List (List ℕ)
  pub later : List (List ℕ)
  pub split : lines_of text ≡ passed ++ later
  pub left_is : left ≡ said_in (length passed + 1) later
  pub has : HasParts names parts passed

-- as much is kept as is said
pub kept_length : (said : List Said) → length (kept_of said) ≡ length said
kept_length said = length-map said (λ one. (one.number, said_by one.statement))

-- what is left begins with what is said at the next place
pub left_next : (said : List Said) (place : ℕ) (one : Said) → place < length said
    → one ≡ get_or said place one → drop place (kept_of said)
    ≡ (one.number, said_by one.statement) ∷ drop (place + 1) (kept_of said)
left_next said place one within is =
    let kept : Said → ℕ × Statement = λ o. (o.number, said_by o.statement) in
    let more : suc place ≡ place + 1 = omega arith in
    drop-cons (kept_of said) place (kept one) (omega (arith, kept_length said))
    ∙ ap (λ first. first ∷ drop (suc place) (kept_of said))
    (get_or-map kept said place one (kept one) within ∙ ap kept (sym is))
    ∙ ap (λ n. (one.number, said_by one.statement) ∷ drop n (kept_of said)) more

-- the lines so far define no more than all lines
definitions_before : (passed later : List (List ℕ))
    → length (definitions_in passed) ≤ length (definitions_in (passed ++ later))
definitions_before passed later =
    let joined : definitions_in (passed ++ later) ≡ definitions_in passed ++ definitions_in later =
    ap (filter_map definition_of) (filter_map-append statement_of passed later)
    ∙ filter_map-append definition_of (statements_in passed) (statements_in later) in
    rw joined (omega (arith, length-append (definitions_in passed) (definitions_in later)))

module _ {text : List ℕ} {names : List (List ℕ)} {said : List Said}
    (reading : IsReading text names said) where
  -- at the start
  pub denotes_none : {parts : CircuitParts} → HasParts names parts []
      → DenotesPassed text names (kept_of said) parts
  denotes_none has = record {
    passed = [];
    later = lines_of text;
    split = refl;
    left_is = reading.said_are;
    has = has;
  }

  module _ {left : List (ℕ × Statement)} {parts : CircuitParts}
      (before : DenotesPassed text names left parts) where
    -- there is room for one more signal
    pub few_so_far : length parts.signals ≤ 65536
    few_so_far =
        let all = (valid_lines (lines_of text) reading.flawless).few_signals in
        let all_here : length (definitions_in (before.passed ++ before.later)) ≤ 65536 =
        rw (← before.split) all in
        let count : length parts.signals ≡ length (definitions_in before.passed) =
        ap length before.has.signals_are
        ∙ length-map (definitions_in before.passed) (signal_of names) in
        omega (arith, count, definitions_before before.passed before.later)

    -- at the end
    pub all_denoted : left ≡ [] → HasParts names parts (lines_of text)
    all_denoted none =
        subst (HasParts names parts) (sym before.split)
        (silents_denoted names parts before.passed before.later
        (all_silent (length before.passed + 1) before.later (sym before.left_is ∙ none)) before.has)

    module _ (number : ℕ) (statement : Statement) (more : List (ℕ × Statement))
        (some : left ≡ (number, statement) ∷ more) where
      -- the line that says it
      next : IsNextSaid (length before.passed + 1) before.later number statement more
      next = next_said (length before.passed + 1) before.later number statement more
          (sym before.left_is ∙ some)

      -- all lines before that
      abbrev earlier : List (List ℕ)
      earlier = before.passed ++ next.silent

      -- tell the same
      has_earlier : HasParts names parts earlier
      has_earlier =
          silents_denoted names parts before.passed next.silent next.silence before.has

      -- it stands behind them
      parted : lines_of text ≡ earlier ++ next.line ∷ next.later
      parted = before.split ∙ ap (λ l. before.passed ++ l) next.split
          ∙ sym (append_assoc before.passed next.silent (next.line ∷ next.later))

      -- its number
      number_is : number ≡ length earlier + 1
      number_is = omega (arith, next.place_is, length-append before.passed next.silent)

      -- it has a kind
      pub has_kind_next : has_kind statement ≡ true
      has_kind_next =
          let sound = sound_line earlier next.line
          (flawless_at bench_line_fault [] earlier next.line next.later
          (subst (λ lines. first_fault_after bench_line_fault [] lines
          ≡ None) parted reading.flawless)) in
          let same : sound.statement ≡ statement = cc (sound.form, next.says) in
          subst (λ s. has_kind s ≡ true) same sound.sound.kind

      -- a turn
      pub denotes_next : {new : CircuitParts} → ((earlier : List (List ℕ)) (line : List ℕ)
          → statement_of line ≡ Some statement → HasParts names parts earlier
          → HasParts names new (earlier ++ line ∷ [])) → DenotesPassed text names more new
      denotes_next denotes = record {
        passed = earlier ++ next.line ∷ [];
        later = next.later;
        split = parted ∙ sym (append_assoc earlier (next.line ∷ []) next.later);
        left_is = next.more_is ∙ ap (λ n. said_in n next.later)
            (omega (arith, number_is, length_push earlier next.line));
        has = denotes earlier next.line next.says has_earlier;
      }

      -- a refusal
      pub undefined_next : (UsesDefined names statement → ⊥)
          → first_fault (use_fault names) text ≡ Some (Undefined number)
      undefined_next refuses =
          ap (first_fault_after (use_fault names) []) parted
          ∙ undefined_first names earlier next.line next.later statement next.says
          has_earlier.defined refuses
          ∙ ap (λ n. Some (Undefined n)) (sym number_is)
