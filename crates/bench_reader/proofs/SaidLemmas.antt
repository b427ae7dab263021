-- What lines say one after the other: one more line, and the next that isn't blank.
use Rattle.bench_reader.proofs.Vocabulary.{◌≡◌, ◌+◌, ℕ, suc, List, [], ◌∷◌, ◌++◌, length, Option, Some, None, All, refl, sym, ap, ◌∙◌, arith, option_map, option_to_list, cons_option, All-nil, All-cons, Statement, Blank, Input, Output, Assign, statement_of, numbered_statement, said_in, unless_blank}

-- an item that may be there stands before more of a list
cons_option-append : {X : Type 0} (o : Option X) (xs ys : List X)
    → cons_option o (xs ++ ys) ≡ cons_option o xs ++ ys
cons_option-append None xs ys = refl
cons_option-append (Some x) xs ys = refl

-- and is a list itself
cons_option-nil : {X : Type 0} (o : Option X) → cons_option o [] ≡ option_to_list o
cons_option-nil None = refl
cons_option-nil (Some x) = refl

-- what one more line says comes last
pub said_in-push : (number : ℕ) (lines : List (List ℕ)) (line : List ℕ)
    → said_in number (lines ++ line ∷ [])
    ≡ said_in number lines ++ option_to_list (numbered_statement (number + length lines) line)
said_in-push number [] line =
    let here : number ≡ number + 0 = omega arith in
    cons_option-nil (numbered_statement number line)
    ∙ ap (λ n. option_to_list (numbered_statement n line)) here
said_in-push number (first ∷ lines) line =
    let here : number + 1 + length lines ≡ number + suc (length lines) = omega arith in
    ap (cons_option (numbered_statement number first))
    (said_in-push (number + 1) lines line
    ∙ ap (λ n. said_in (number + 1) lines ++ option_to_list (numbered_statement n line)) here)
    ∙ cons_option-append (numbered_statement number first) (said_in (number + 1) lines) _

-- a line that says nothing
abbrev pub IsSilent : List ℕ → Type 0
IsSilent line = unless_blank (statement_of line) ≡ None

-- what is said is a statement
pub statement_said : (o : Option Statement) (statement : Statement)
    → unless_blank o ≡ Some statement → o ≡ Some statement
statement_said None statement says = cc
statement_said (Some Blank) statement says = cc
statement_said (Some (Input name)) statement says = says
statement_said (Some (Output name)) statement says = says
statement_said (Some (Assign name word inputs)) statement says = says

-- the next line that says anything stands behind silent ones
pub record IsNextSaid (number : ℕ) (lines : List (List ℕ)) (place : ℕ) (statement : Statement)
    (more : List (ℕ × Statement)) : Type 0 where
  pub silent : List (List ℕ)
  pub line : List ℕ
  pub later : List (List ℕ)
  pub split : lines ≡ silent ++ line ∷ later
  pub silence : All IsSilent silent
  pub place_is : place ≡ number + length silent
  pub says : statement_of line ≡ Some statement
  pub more_is : more ≡ said_in (place + 1) later

pub next_said : (number : ℕ) (lines : List (List ℕ)) (place : ℕ) (statement : Statement)
    (more : List (ℕ × Statement)) → said_in number lines ≡ (place, statement) ∷ more
    → IsNextSaid number lines place statement more
next_said number [] place statement more is = cc
next_said number (line ∷ lines) place statement more is =
    at (next_said (number + 1) lines place statement more) (unless_blank (statement_of line)) refl
    is
  where
    at : (said_in (number + 1) lines ≡ (place, statement) ∷ more
        → IsNextSaid (number + 1) lines place statement more) → (o : Option Statement)
        → unless_blank (statement_of line) ≡ o
        → cons_option (option_map (λ s. (number, s)) o) (said_in (number + 1) lines)
        ≡ (place, statement) ∷ more → IsNextSaid number (line ∷ lines) place statement more
    at beyond None silent is =
        let next = beyond is in
        record {
          silent = line ∷ next.silent;
          line = next.line;
          later = next.later;
          split = ap (λ l. line ∷ l) next.split;
          silence = All-cons IsSilent line next.silent silent next.silence;
          place_is = omega (arith, next.place_is);
          says = next.says;
          more_is = next.more_is;
        }
    at beyond (Some said) some is =
        let here : ◌≡◌ {A = ℕ × Statement} (number, said) (place, statement) = cc in
        let number_is : number ≡ place = ap (λ p. p.0) here in
        let said_is : said ≡ statement = ap (λ p. p.1) here in
        let rest : said_in (number + 1) lines ≡ more = cc in
        record {
          silent = [];
          line = line;
          later = lines;
          split = refl;
          silence = All-nil IsSilent;
          place_is = omega (arith, number_is);
          says = statement_said (statement_of line) statement (some ∙ ap Some said_is);
          more_is = sym rest ∙ ap (λ n. said_in (n + 1) lines) number_is;
        }

-- where nothing more is said, all lines are silent
pub all_silent : (number : ℕ) (lines : List (List ℕ)) → said_in number lines ≡ []
    → All IsSilent lines
all_silent number [] none = All-nil IsSilent
all_silent number (line ∷ lines) none =
    at (all_silent (number + 1) lines) (unless_blank (statement_of line)) refl none
  where
    at : (said_in (number + 1) lines ≡ [] → All IsSilent lines) → (o : Option Statement)
        → unless_blank (statement_of line) ≡ o
        → cons_option (option_map (λ s. (number, s)) o) (said_in (number + 1) lines) ≡ []
        → All IsSilent (line ∷ lines)
    at beyond None silent none = All-cons IsSilent line lines silent (beyond none)
    at beyond (Some said) some none = cc
