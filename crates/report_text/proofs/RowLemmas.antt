-- Lines of one form, one after the other, and the rows that they tell.
use Rattle.report_text.proofs.Vocabulary.{ℕ, zero, suc, ◌≡◌, ◌<◌, ◌≤◌, ◌+◌, ◌*◌, All, List, [], ◌∷◌, ◌++◌, map, length, get_or, replicate, refl, sym, ap, ap₂, subst, ◌∙◌, arith, range_with_len, length-append, All-cons, All-nil, All-push, length-map-range_with_len, map-range_with_len_more, Circuit, Constraint, Words, count_line, line_for, HasSmallWeight, IsBetweenRegisters, path_line, pathed_lines, ReportFault, LineForm, Scale, cycle_forms, Counted, HasPathed, HasRows, SayEach, lines_of, DenotesConstraint, DenotesPath, Left, Reads, Stops, StopsLine, DenotesLine}
use Rattle.cts_model.specs.declared.report.Version.TheVariants as version
use Rattle.report_text.specs.LineForms as form
use Rattle.report_text.proofs.WalkLemmas.{next_read, next_stops, read_more, read_none, stop_line}

-- a list with one more item
module _ {X : Type 0} (xs xs' : List X) (x : X) (is : xs' ≡ xs ++ x ∷ []) where
  pub longer : (count : ℕ) → length xs ≡ count → length xs' ≡ count + 1
  longer count long = search (arith, length-append)

  all_with : (P : X → Type 0) → All P xs → P x → All P xs'
  all_with P each last = subst (All P) (sym is) (All-push P xs x each last)

-- ---- rows

module _ {X : Type 0} (Says : ℕ → Words → X → Type 0) where
  -- one more line and its row
  say_more : (first : ℕ) (lines : List Words) (rows : List X) (words : Words) (row : X)
      → SayEach Says first lines rows → Says (first + length rows) words row
      → SayEach Says first (lines ++ words ∷ []) (rows ++ row ∷ [])
  say_more first [] [] words row each says = (subst (λ n. Says n words row) (omega arith) says, tt)
  say_more first (line ∷ lines) (other ∷ rows) words row each says = (
    each.0,
    say_more (first + 1) _ rows words row each.1 (subst (λ n. Says n words row) (omega arith) says),
  )
  say_more first lines rows words row each says = absurd each

  -- the lines are those of the rows
  pub rows_lines : (line : ℕ → X → Words)
      → ((number : ℕ) (words : Words) (row : X) → Says number words row → words ≡ line number row)
      → (first : ℕ) (lines : List Words) (rows : List X) → SayEach Says first lines rows
      → lines ≡ lines_of line first rows
  rows_lines line is first [] [] each = refl
  rows_lines line is first (words ∷ lines) (row ∷ rows) each =
      search (arith, rows_lines line is (first + 1) lines rows each.1)
  rows_lines line is first lines rows each = absurd each

  -- and each row has what its line gives
  pub rows_all : (P : X → Type 0)
      → ((number : ℕ) (words : Words) (row : X) → Says number words row → P row) → (first : ℕ)
      (lines : List Words) (rows : List X) → SayEach Says first lines rows → All P rows
  rows_all P has first [] [] each = All-nil P
  rows_all P has first (words ∷ lines) (row ∷ rows) each = All-cons P row rows
      (has first words row each.0) (rows_all P has (first + 1) lines rows each.1)
  rows_all P has first lines rows each = absurd each

-- lines that have no number
pub plain_lines : {X : Type 0} (line : X → Words) (first : ℕ) (rows : List X)
    → lines_of (λ number. line) first rows ≡ map line rows
plain_lines line first [] = refl
plain_lines line first (row ∷ rows) = search (arith, plain_lines line (first + 1) rows)

-- forms that are numbered
numbered_step : (due : ℕ → LineForm) (first place : ℕ) → map due (range_with_len first (place + 1))
    ≡ map due (range_with_len first place) ++ due (first + place) ∷ []
numbered_step due first place = map-range_with_len_more due first place (first + place) refl

-- where all are one form
pub one_form : (due : LineForm) (first count : ℕ)
    → map (λ number. due) (range_with_len first count) ≡ replicate count due
one_form due first zero = refl
one_form due first (suc count) = ap (λ forms. due ∷ forms) (one_form due (first + 1) count)

-- the lines of numbers, where each is that of a row
numbered_lines : {X : Type 0} (f : ℕ → Words) (line : ℕ → X → Words) (default : X) (start first : ℕ)
    (rows : List X) → ((place node number : ℕ) → start + place ≡ node → first + place ≡ number
    → place < length rows → f node ≡ line number (get_or rows place default))
    → map f (range_with_len start (length rows)) ≡ lines_of line first rows
numbered_lines f line default start first [] same = refl
numbered_lines f line default start first (row ∷ rows) same =
    ap₂ (λ w ws. w ∷ ws) (same 0 start first (omega arith) (omega arith) (omega arith))
    (numbered_lines f line _ (start + 1) _ rows (λ place node number is is' within. same (suc place)
    node number (omega (arith, is)) (omega (arith, is')) (omega (arith, within))))

-- of numbers from 0 on
pub numbered_rows : {X : Type 0} (f : ℕ → Words) (line : ℕ → X → Words) (default : X) (first : ℕ)
    (rows : List X) → ((place : ℕ) → place < length rows → f place ≡ line (first + place)
    (get_or rows place default)) → map f (range_with_len 0 (length rows)) ≡ lines_of line first rows
numbered_rows f line default first rows same =
    numbered_lines f line default 0 first rows (λ place node number is is' within.
    let here : node ≡ place = omega (arith, is) in
    ap f here ∙ same place within ∙ ap (λ n. line n (get_or rows place default)) is')

module _ {X : Type 0} {circuit : Circuit} {scale : Scale} (due : ℕ → LineForm)
    (Says : ℕ → Words → X → Type 0) (first : ℕ) {old : Left} where
  -- before the first
  pub no_rows : HasRows circuit scale due Says first 0 old old []
  no_rows = record { lines = []; read = read_none circuit scale old; each = tt; many = refl }

  module _ {place : ℕ} {between : Left} {rows : List X}
      (has : HasRows circuit scale due Says first place old between rows) where
    -- the number of the next line
    pub rows_number : between.line ≡ old.line + place
    rows_number = omega (arith, has.read.number, length-map-range_with_len due first place)

    -- one more row
    pub rows_next : (rows' : List X) (row : X) (new : Left)
        → DenotesLine circuit scale (due (first + place)) (Says (first + place)) between new row
        → rows' ≡ rows ++ row ∷ [] → HasRows circuit scale due Says first (place + 1) old new rows'
    rows_next rows' row new next is = record {
      lines = has.lines ++ next.words ∷ [];
      read = next_read _ (λ n. due (first + n) ∷ []) (numbered_step due first) _ _ _ _ _ _ _
          has.read (next.line.read scale next.line.flawless) refl;
      each = subst (SayEach Says first (has.lines ++ next.words ∷ [])) (sym is) (say_more _ _ _ _ _
          _ has.each (subst (λ n. Says (first + n) next.words row) (sym has.many) next.denoted));
      many = longer _ _ _ is _ has.many;
    }

    -- a fault of the next line
    pub rows_stop : (count : ℕ) (fault : ReportFault) → place < count
        → StopsLine circuit scale (due (first + place)) between fault
        → Stops circuit scale (map due (range_with_len first count)) old fault
    rows_stop count fault within stops =
        next_stops (λ n. map due (range_with_len first n)) (λ n. due (first + n) ∷ [])
        (numbered_step due first) place count has.lines old between fault within has.read
        (stop_line circuit scale (due (first + place)) between fault stops)

module _ {X : Type 0} {circuit : Circuit} {scale : Scale} {keyword : List ℕ} {due : ℕ → LineForm}
    {Says : ℕ → Words → X → Type 0} {first count : ℕ} {old new : Left} {rows : List X}
    (has : Counted circuit scale keyword due Says first count old new rows) where
  -- the lines of rows, after how many they are
  pub counted_read : Reads circuit scale
      (form.Count keyword count ∷ map due (range_with_len first count))
      (count_line keyword count ∷ has.has.lines) old new
  counted_read = read_more (has.counted.read scale has.counted.flawless) _ _ new has.has.read

  pub counted_number : new.line ≡ old.line + 1 + count
  counted_number =
      let head = has.counted.read scale has.counted.flawless in
      omega (arith, head.number, rows_number due Says first has.has)

-- ---- a cycle with paths

-- its forms
pub pathed_step : (place : ℕ) → cycle_forms version.Second (place + 1)
    ≡ cycle_forms version.Second place ++ form.Constraint ∷ form.Path ∷ []
pathed_step zero = refl
pathed_step (suc place) = search (arith, pathed_step place)

pub length_pathed : (place : ℕ) → length (cycle_forms version.Second place) ≡ 2 * place
length_pathed zero = refl
length_pathed (suc place) = omega (arith, length_pathed place)

-- its lines
pathed_more : (circuit : Circuit) (cycle : List Constraint)
    (paths : List (List ℕ)) (constraint : Constraint) (path : List ℕ) → length cycle ≡ length paths
    → pathed_lines circuit (cycle ++ constraint ∷ []) (paths ++ path ∷ [])
    ≡ pathed_lines circuit cycle paths ++ line_for circuit constraint ∷ path_line circuit path ∷ []
pathed_more circuit [] [] constraint path as_many = refl
pathed_more circuit (first ∷ cycle) (way ∷ paths) constraint path as_many =
    search (arith, pathed_more circuit cycle paths constraint path (omega arith))
pathed_more circuit cycle paths constraint path as_many = absurd (omega arith)

-- one more constraint and its path
pub pathed_next : {circuit : Circuit} {scale : Scale} {place : ℕ} {old between new : Left}
    (middle : Left) (pathed pathed' : List Constraint × List (List ℕ)) (constraint : Constraint)
    (path : List ℕ)
    → HasPathed circuit scale place old between pathed → DenotesLine circuit scale form.Constraint
    (DenotesConstraint circuit) between middle constraint
    → DenotesLine circuit scale form.Path (DenotesPath circuit)
    middle new path → pathed'.0 ≡ pathed.0 ++ constraint ∷ []
    → pathed'.1 ≡ pathed.1 ++ path ∷ []
    → HasPathed circuit scale (place + 1) old new pathed'
pathed_next {circuit} {scale} {place} {old} {between} {new} middle pathed pathed' constraint path
    has next way cycle paths = record {
      lines = next_read (cycle_forms version.Second) _ pathed_step place _ (next.words ∷ way.words
          ∷ []) _ _ _ _ has.lines (read_more (next.line.read scale next.line.flawless) _
          _ _ (way.line.read scale way.line.flawless)) (ap₂ (pathed_lines circuit)
          cycle paths ∙ pathed_more circuit _ _ constraint path
          (has.as_many ∙ sym has.paths) ∙ ap₂ (λ first second. pathed_lines circuit pathed.0
          pathed.1 ++ first ∷ second ∷ []) (sym next.denoted.line) (sym way.denoted.line));
      as_many = longer _ _ _ cycle _ has.as_many;
      paths = longer _ _ _ paths _ has.paths;
      registers = all_with _ _ _ cycle
          (IsBetweenRegisters (length circuit.registers)) has.registers next.denoted.registers;
      weights = all_with _ _ _ cycle HasSmallWeight has.weights next.denoted.weight;
      signals = all_with _ _ _ paths
          (All (λ number. number < length circuit.signals)) has.signals way.denoted.signals;
      few = all_with _ _ _ paths (λ (each : List ℕ). length each ≤ 65536) has.few way.denoted.few;
    }
