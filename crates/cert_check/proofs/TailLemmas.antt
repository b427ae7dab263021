-- Where the constraints before a place of a cycle begin, one place after the other.
use Rattle.cert_check.proofs.Vocabulary.{◌⊎◌, ◌≡◌, ◌<◌, ◌+◌, ℕ, Bool, true, false, List, length, get_or, set, inl, inr, sym, subst, arith, ◌∙◌, Some, ap, slice_get, cases_lt, cases_eq, get_or-set_same, get_or-set_other, length-set, Constraint, HoldsTogether, AtEach}
use Rattle.cert_check.specs.CyclePlaces.{AreTailsBefore, BeginsBefore}
use Rattle.cert_check.proofs.FirstPlaces.{each_more}

-- before this place a cycle holds together, and its tails are marked
pub record IsWalked (registers : ℕ) (cycle : List Constraint) (place : ℕ)
    (seen : List Bool) : Type 0 where
  pub long : length seen ≡ registers
  pub before : AtEach place (HoldsTogether cycle)
  pub tails : AreTailsBefore cycle place seen

-- a constraint that begins before the next place begins before this one, or is this one
begins_by : (cycle : List Constraint) (place : ℕ) (constraint : Constraint) (register : ℕ)
    → slice_get cycle place ≡ Some constraint → BeginsBefore cycle (place + 1) register
    → BeginsBefore cycle place register ⊎ (constraint.tail ≡ register)
begins_by cycle place constraint register here begins = elim (cases_lt begins.earlier place) [
  | inl before ↦ inl (record {
    earlier = begins.earlier;
    other = begins.other;
    before = before;
    here = begins.here;
    begins = begins.begins;
  })
  | inr not_before ↦
      let same : begins.earlier ≡ place = omega (arith, begins.before) in
      let other : Some constraint ≡ Some begins.other =
      sym here ∙ subst (λ n. slice_get cycle n ≡ Some begins.other) same begins.here in
      let one : constraint ≡ begins.other = cc other in
      inr (ap (λ c. c.tail) one ∙ begins.begins)
]

module _ (registers : ℕ) (cycle : List Constraint) (place : ℕ) (seen : List Bool)
    (constraint : Constraint) (here : slice_get cycle place ≡ Some constraint)
    (low : constraint.tail < registers) (walked : IsWalked registers cycle place seen) where
  -- the tail is marked
  now_marked : (register : ℕ) → BeginsBefore cycle (place + 1) register
      → get_or (set seen constraint.tail true) register false ≡ true
  now_marked register begins = elim (cases_eq constraint.tail register) [
    | inl same ↦ subst (λ r. get_or (set seen constraint.tail true) r false ≡ true) same
        (get_or-set_same seen constraint.tail true false
        (omega (arith, walked.long, low)))
    | inr other ↦ elim (begins_by cycle place constraint register here begins) [
      | inl before ↦ get_or-set_other seen constraint.tail register true false
          (λ same. other (sym same)) ∙ walked.tails.marked register before
      | inr same ↦ absurd (other same)
    ]
  ]

  -- and it alone
  now_begun : (register : ℕ) → get_or (set seen constraint.tail true) register false ≡ true
      → BeginsBefore cycle (place + 1) register
  now_begun register marked = elim (cases_eq constraint.tail register) [
    | inl same ↦ record {
      earlier = place;
      other = constraint;
      before = omega arith;
      here = here;
      begins = same;
    }
    | inr other ↦
        let before = walked.tails.begun register
        (sym (get_or-set_other seen constraint.tail register true false (λ same. other (sym same)))
        ∙ marked) in
        record {
          earlier = before.earlier;
          other = before.other;
          before = omega (arith, before.before);
          here = before.here;
          begins = before.begins;
        }
  ]

  -- one constraint more
  pub walked_next : HoldsTogether cycle place
      → IsWalked registers cycle (place + 1) (set seen constraint.tail true)
  walked_next together = record {
    long = length-set seen constraint.tail true ∙ walked.long;
    before = each_more (HoldsTogether cycle) place walked.before together;
    tails = record { marked = now_marked; begun = now_begun };
  }
