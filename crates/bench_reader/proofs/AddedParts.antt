-- What is taken in from a line whose names are all defined.
use Rattle.bench_reader.proofs.Vocabulary.{◌≡◌, ℕ, nat_eq, List, [], ◌∷◌, ◌++◌, map, Option, Some, None, IsSome, IsSomeAnd, All, refl, sym, ap, ◌∙◌, subst, append_assoc, append-nil, filter_map, map_push, All-nil, All-cons, All-head, All-push, All-tail, registers_of, Statement, Blank, Input, Output, Assign, Definition, statement_of, definition_of, mention_of, statements_in, definitions_in, signal_of, number_of, first_mentions, insert_key, CircuitParts, unless_blank, HasParts, filter_map_push_none, filter_map_push_some, AreDefined, UsesDefined}
use Rattle.bench_reader.proofs.LineStatements.{statements_push, definitions_push_some, definitions_push_none}
use Rattle.bench_reader.proofs.PartLists.{mentions_push}
use Rattle.bench_reader.proofs.SaidLemmas.{IsSilent}

module _ (names : List (List ℕ)) (line : List ℕ) (old new : CircuitParts) {earlier : List (List ℕ)}
    (has : HasParts names old earlier) (statement : Statement)
    (form : statement_of line ≡ Some statement) where
  -- the line uses defined names as those before it do
  defined_push : UsesDefined names statement → AreDefined names (earlier ++ line ∷ [])
  defined_push uses = rw (statements_push earlier line form)
      (All-push (UsesDefined names) (statements_in earlier) statement has.defined uses)

  -- no more is mentioned
  outputs_stay : mention_of statement ≡ None → new.outputs.keys ≡ old.outputs.keys
      → new.outputs.keys ≡ first_mentions
      (filter_map (number_of names) (filter_map mention_of (statements_in (earlier ++ line ∷ []))))
  outputs_stay none same =
      let mentions : filter_map mention_of (statements_in (earlier ++ line ∷ []))
      ≡ filter_map mention_of (statements_in earlier) =
      ap (filter_map mention_of) (statements_push earlier line form)
      ∙ filter_map_push_none mention_of (statements_in earlier) statement none in
      rw mentions (same ∙ has.outputs_are)

  -- a line that defines nothing
  signals_stay : definition_of statement ≡ None → new.signals ≡ old.signals
      → new.signals ≡ map (signal_of names) (definitions_in (earlier ++ line ∷ []))
  signals_stay none same =
      rw (definitions_push_none earlier line form none) (same ∙ has.signals_are)

  -- a line with a definition
  pub defining_denoted : (definition : Definition) {fan_in : List ℕ}
      → definition_of statement ≡ Some definition → mention_of statement ≡ None
      → UsesDefined names statement → new.signals ≡ old.signals
      ++ record { name = definition.name; kind = definition.kind; fan_in = fan_in } ∷ []
      → fan_in ≡ filter_map (number_of names) definition.inputs
      → (old.registers ≡ registers_of old.signals → new.registers ≡ registers_of new.signals)
      → new.outputs.keys ≡ old.outputs.keys → HasParts names new (earlier ++ line ∷ [])
  defining_denoted definition some none uses put reads registers outputs =
      let defined : definitions_in (earlier ++ line ∷ [])
      ≡ definitions_in earlier ++ definition ∷ [] = definitions_push_some earlier line form some in
      let grown : new.signals ≡ old.signals ++ signal_of names definition ∷ [] = put
      ∙ ap (λ f.
      old.signals ++ record { name = definition.name; kind = definition.kind; fan_in = f } ∷ [])
      reads in
      record {
        signals_are = grown ∙ ap (λ l. l ++ signal_of names definition ∷ []) has.signals_are
            ∙ sym (ap (map (signal_of names)) defined
            ∙ map_push (signal_of names) (definitions_in earlier) definition);
        registers_are = registers has.registers_are;
        outputs_are = outputs_stay none outputs;
        defined = defined_push uses;
      }

module _ (names : List (List ℕ)) (line : List ℕ) (old : CircuitParts) {earlier : List (List ℕ)}
    (has : HasParts names old earlier) where
  -- a line that says nothing
  pub blank_denoted : statement_of line ≡ Some Blank → HasParts names old (earlier ++ line ∷ [])
  blank_denoted form = record {
    signals_are = signals_stay names line old old has Blank form refl refl;
    registers_are = has.registers_are;
    outputs_are = outputs_stay names line old old has Blank form refl refl;
    defined = defined_push names line old old has Blank form (All-nil _);
  }

  -- a primary output with a number
  pub output_denoted : (new : CircuitParts) {name : List ℕ} → statement_of line ≡ Some (Output name)
      → new.signals ≡ old.signals → new.registers ≡ old.registers → IsSomeAnd (number_of names name)
      (λ number. new.outputs.keys ≡ insert_key nat_eq old.outputs.keys number)
      → HasParts names new (earlier ++ line ∷ [])
  output_denoted new {name} form signals registers outputs = at (number_of names name) refl outputs
    where
      at : (o : Option ℕ) → number_of names name ≡ o
          → IsSomeAnd o (λ number. new.outputs.keys ≡ insert_key nat_eq old.outputs.keys number)
          → HasParts names new (earlier ++ line ∷ [])
      at None none put = absurd put
      at (Some number) some put =
          let mentions : filter_map mention_of (statements_in (earlier ++ line ∷ []))
          ≡ filter_map mention_of (statements_in earlier) ++ name ∷ [] =
          ap (filter_map mention_of) (statements_push earlier line form)
          ∙ filter_map_push_some mention_of (statements_in earlier) (Output name) name refl in
          let numbers : filter_map (number_of names)
          (filter_map mention_of (statements_in (earlier ++ line ∷ [])))
          ≡ filter_map (number_of names) (filter_map mention_of (statements_in earlier)) ++ number
          ∷ [] = ap (filter_map (number_of names)) mentions
          ∙ filter_map_push_some (number_of names)
          (filter_map mention_of (statements_in earlier)) name number some in
          record {
            signals_are = signals_stay names line old new has (Output name) form refl signals;
            registers_are = registers ∙ has.registers_are ∙ ap registers_of (sym signals);
            outputs_are = put ∙ ap (λ keys. insert_key nat_eq keys number) has.outputs_are
                ∙ sym (ap first_mentions numbers ∙ mentions_push _ number);
            defined = defined_push names line old new has (Output name) form
                (All-cons (λ n. IsSome (number_of names n)) name [] (rw some refl) (All-nil _));
          }

module _ (names : List (List ℕ)) (parts : CircuitParts) where
  -- a line that says nothing, or has no form
  silent_denoted : {earlier : List (List ℕ)} (line : List ℕ) → IsSilent line
      → HasParts names parts earlier → HasParts names parts (earlier ++ line ∷ [])
  silent_denoted {earlier} line silent has = at (statement_of line) refl silent
    where
      at : (o : Option Statement) → statement_of line ≡ o → unless_blank o ≡ None
          → HasParts names parts (earlier ++ line ∷ [])
      at None form none =
          let same : statements_in (earlier ++ line ∷ []) ≡ statements_in earlier =
          filter_map_push_none statement_of earlier line form in
          record {
            signals_are = rw same has.signals_are;
            registers_are = has.registers_are;
            outputs_are = rw same has.outputs_are;
            defined = rw same has.defined;
          }
      at (Some Blank) form none = blank_denoted names line parts has form
      at (Some (Input name)) form none = cc
      at (Some (Output name)) form none = cc
      at (Some (Assign name word inputs)) form none = cc

  -- lines that say nothing
  pub silents_denoted : (earlier silent : List (List ℕ)) → All IsSilent silent
      → HasParts names parts earlier → HasParts names parts (earlier ++ silent)
  silents_denoted earlier [] silence has =
      subst (HasParts names parts) (sym (append-nil earlier)) has
  silents_denoted earlier (line ∷ silent) silence has =
      subst (HasParts names parts) (append_assoc earlier (line ∷ []) silent)
      (silents_denoted (earlier ++ line ∷ []) silent (All-tail IsSilent line silent silence)
      (silent_denoted line (All-head IsSilent line silent silence) has))
