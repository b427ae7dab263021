-- How far a sweep has come: what one constraint after the other makes of all values.
use Rattle.relaxation.proofs.Vocabulary.{◌≡◌, ◌<◌, ◌≤◌, ◌+◌, ◌^◌, ◌∙◌, ℕ, ℤ, pos, ◌≤ℤ◌, List, length, get_or, set, All, Option, Some, None, MatchOption, IfSome, ◌⊎◌, sym, subst, ap, refl, arith, slice_get, ⊤, Bool, true, false, inl, inr, ◌-◌, cases_lt, option_or, length-set, get_or_read, slice_get-get_or, slice_get_within, Constraint, AreSmallConstraints, IsSmallConstraint, IsBelow, Gains, Relaxation, value_of, IsLeft, IsRaised, IsRelaxed, AreRaised, AreRaisedBy, IsSweeping, IsReady, IsSweep, LeavesParents}
use Rattle.relaxation.specs.Places.{place_at}
use Rattle.relaxation.proofs.RelaxLemmas.{nowhere}
use Rattle.relaxation.proofs.RiseLemmas.{AreRaised-more, AreRaisedBy-none, AreRaisedBy-one, AreRaisedBy-more, small_capped, small_raised}
use Rattle.relaxation.proofs.ParentLemmas.{IsRaise, IsRaise-set}
use Rattle.relaxation.proofs.SweepLemmas.{IsSweeping-fewer, IsSweeping-left, IsSweeping-raised}

-- what a look at a constraint leaves, by whether its head changed
abbrev IsLook : Gains → ℕ → Constraint → Relaxation → Option ℕ → Relaxation → Type 0
IsLook gains place constraint old answer new = MatchOption answer (IsLeft gains constraint old new)
    (λ (register : ℕ). IsRaised gains place constraint old register new)

-- a look at the constraint at a place
module _ {constraints : List Constraint} (gains : Gains) {place : ℕ} (old new : Relaxation)
    (smalls : AreSmallConstraints (length old.values.items) constraints)
    (within : place < length constraints) where
  here : slice_get constraints place ≡ Some (get_or constraints place nowhere)
  here = slice_get-get_or constraints place nowhere within

  small : IsSmallConstraint (length old.values.items) (get_or constraints place nowhere)
  small = smalls.each place nowhere within

  look : (answer : Option ℕ) → IsRelaxed constraints gains place old answer new
      → IsLook gains place (get_or constraints place nowhere) old answer new
  look answer relaxed = subst (λ o. IfSome o (λ (one : Constraint). IsLook gains place one old
      answer new)) here relaxed

  -- the parents keep their length
  parents_length : (answer : Option ℕ) → IsLook gains place (get_or constraints place nowhere)
      old answer new → length new.parents.items ≡ length old.parents.items
  parents_length None left = ap length left.parents
  parents_length (Some register) raised = ap length raised.parents
      ∙ length-set old.parents.items (get_or constraints place nowhere).head place

  -- and so do the constraints
  constraints_look : (answer : Option ℕ) → IsLook gains place (get_or constraints place nowhere)
      old answer new → new.constraints.now ≡ old.constraints.now
  constraints_look None left = left.constraints
  constraints_look (Some register) raised = raised.constraints

  -- it is at most one raise
  raised_look : (answer : Option ℕ) → IsLook gains place (get_or constraints place nowhere)
      old answer new → AreRaisedBy constraints gains 1 old.values.items new.values.items
  raised_look None left = subst (AreRaisedBy constraints gains 1 old.values.items) (sym left.values)
      (AreRaisedBy-none 1 old.values.items)
  raised_look (Some register) raised = subst
      (AreRaisedBy constraints gains 1 old.values.items) (sym raised.values) (AreRaisedBy-one gains
      old.values.items (get_or constraints place nowhere) small constraints place here raised.more)

  -- one more place is seen
  sweeping_look : (answer : Option ℕ) → IsLook gains place (get_or constraints place nowhere)
      old answer new → (sweep : ℕ) {Seen : ℕ → Type 0} (Later : ℕ → Type 0) (changed : Option ℕ)
      → ((other : ℕ) → Later other → (Seen other) ⊎ (other ≡ place))
      → (parents : List ℕ) → length parents ≡ length old.values.items
      → IsSweeping constraints gains sweep Seen changed old.values.items parents
      → LeavesParents constraints gains sweep Later (option_or answer changed) old new parents
  sweeping_look None left sweep Later changed seen parents long before = record {
    later = parents;
    long = refl;
    kept = λ own. own ∙ sym left.parents;
    sweeping = subst (λ (values : List ℤ).
        IsSweeping constraints gains sweep Later changed values parents) (sym left.values)
        (IsSweeping-left before place (get_or constraints place nowhere) here Later seen left.met);
  }
  sweeping_look (Some register) raised sweep Later changed seen parents long before = record {
    later = set parents (get_or constraints place nowhere).head place;
    long = length-set parents (get_or constraints place nowhere).head place;
    kept = λ own. ap (λ (them : List ℕ). set them (get_or constraints place nowhere).head place) own
        ∙ sym raised.parents;
    sweeping = subst (λ r. IsSweeping constraints gains sweep
        Later (Some r) new.values.items (set parents (get_or constraints place nowhere).head place))
        (sym raised.head) (IsSweeping-raised before place (get_or constraints place nowhere)
        here Later seen (raised_look (Some register) raised).raised.registers small.head
        (subst (λ (later : List ℤ). IsRaise constraints gains (get_or constraints place nowhere)
        old.values.items parents later (set parents (get_or constraints place nowhere).head place))
        (sym raised.values) (IsRaise-set constraints gains place (get_or constraints place nowhere)
        old.values.items parents here small.head (omega (arith, small.head, long)) raised.more)));
  }

  -- where its tail isn't above the cap, what is raised is small still
  small_look : value_of old.values.items (get_or constraints place nowhere).tail ≤ℤ pos (2 ^ 93)
      → All (IsBelow (2 ^ 94)) old.values.items → (answer : Option ℕ) → IsLook gains place
      (get_or constraints place nowhere) old answer new → All (IsBelow (2 ^ 94)) new.values.items
  small_look capped all None left = subst (All (IsBelow (2 ^ 94))) (sym left.values) all
  small_look
      capped all (Some register) up = subst (All (IsBelow (2 ^ 94))) (sym up.values) (small_capped
      gains old.values.items (get_or constraints place nowhere) small capped up.more all)

-- the place comes after fewer others than so many
abbrev pub IsSeen : (places : ℕ) (forwards : Bool) (turns place : ℕ) → Type 0
IsSeen places forwards turns place =
    (turn : ℕ) × (turn < turns) × (place ≡ place_at turn places forwards)

-- each place is seen at last
seen_all : (places : ℕ) (forwards : Bool) (place : ℕ) → place < places
    → IsSeen places forwards places place
seen_all places true place within = (place, within, refl)
seen_all places false place within = (places - 1 - place, omega arith, omega arith)

-- how far a sweep has come that has seen so many constraints
pub record IsUnderWay (gains : Gains) (forwards : Bool) (turns : ℕ) (changed : Option ℕ)
    (begun now : Relaxation) : Type 0 where
  pub constraints_kept : now.constraints.now ≡ begun.constraints.now
  pub parents : length now.parents.items ≡ length begun.parents.items
  pub raised
      : AreRaisedBy begun.constraints.now gains turns begun.values.items now.values.items
  pub swept : (sweep : ℕ) (parents : List ℕ) → length parents ≡ length begun.values.items
      → IsReady begun.constraints.now gains sweep begun.values.items parents
      → LeavesParents begun.constraints.now gains sweep
      (IsSeen (length begun.constraints.now) forwards turns) changed begun now parents

-- before the first
pub IsUnderWay-none : {gains : Gains} {forwards : Bool} (begun : Relaxation)
    → IsUnderWay gains forwards 0 None begun begun
IsUnderWay-none begun = record {
  constraints_kept = refl;
  parents = refl;
  raised = AreRaisedBy-none 0 begun.values.items;
  swept = λ sweep parents long ready. record {
    later = parents;
    long = refl;
    kept = λ own. own;
    sweeping
        = IsSweeping-fewer ready _ (λ place constraint seen here. absurd (omega (arith, seen.1)));
  };
}

module _ {gains : Gains} {forwards : Bool} {turns : ℕ} {changed : Option ℕ}
    {begun now : Relaxation} (way : IsUnderWay gains forwards turns changed begun now) where
  -- the constraints
  abbrev constraints : List Constraint
  constraints = begun.constraints.now

  -- they are between these registers
  smalls_now : AreSmallConstraints (length now.values.items) constraints
  smalls_now = subst (λ n. AreSmallConstraints n constraints)
      (sym way.raised.raised.registers) begun.small

  -- the values are small still
  pub small_now : turns ≤ 2097152 → All (IsBelow (2 ^ 114)) begun.values.items
      → All (IsBelow (2 ^ 115)) now.values.items
  small_now few = small_raised (2 ^ 114) (2 ^ 115) (omega arith) way.raised

  -- one more constraint is looked at
  pub IsUnderWay-more : {place : ℕ} (answer : Option ℕ) {later : Relaxation}
      → place ≡ place_at turns (length constraints) forwards → place < length constraints
      → IsRelaxed now.constraints.now gains place now answer later
      → IsUnderWay gains forwards (turns + 1) (option_or answer changed) begun later
  IsUnderWay-more {place} answer {later} is inside relaxed = record {
    constraints_kept = constraints_look gains now later smalls_now inside answer seen_now
        ∙ way.constraints_kept;
    parents = parents_length gains now later smalls_now inside answer seen_now ∙ way.parents;
    raised = AreRaisedBy-more
        (omega arith) way.raised (raised_look gains now later smalls_now inside answer seen_now);
    swept = λ sweep parents long ready.
        let left = way.swept sweep parents long ready in
        let next = sweeping_look gains now later smalls_now inside answer seen_now sweep
        (IsSeen (length constraints) forwards (turns + 1)) changed next_or_before left.later
        (left.long ∙ long ∙ sym way.raised.raised.registers) left.sweeping in
        record {
          later = next.later;
          long = next.long ∙ left.long;
          kept = λ own. next.kept (left.kept own);
          sweeping = next.sweeping;
        };
  }
    where
      seen_now : IsLook gains place (get_or constraints place nowhere) now answer later
      seen_now = look gains now later smalls_now inside answer
          (subst (λ them. IsRelaxed them gains place now answer later) way.constraints_kept relaxed)

      -- the places seen
      next_or_before : (other : ℕ) → IsSeen (length constraints) forwards (turns + 1) other
          → (IsSeen (length constraints) forwards turns other) ⊎ (other ≡ place)
      next_or_before other seen = elim (cases_lt seen.0 turns) [
        | inl before ↦ inl (seen.0, before, seen.2)
        | inr past ↦
            let last : seen.0 ≡ turns = omega (arith, seen.1) in
            inr (seen.2 ∙ ap (λ t. place_at t (length constraints) forwards) last ∙ sym is)
      ]

  -- after the last
  pub IsSweep-all : turns ≡ length constraints → IsSweep constraints gains begun changed now
  IsSweep-all whole = record {
    constraints_kept = way.constraints_kept;
    parents = way.parents;
    raised = subst (λ n. AreRaisedBy constraints gains n begun.values.items now.values.items) whole
        way.raised;
    swept = λ sweep parents long ready.
        let left = way.swept sweep parents long ready in
        record {
          later = left.later;
          long = left.long;
          kept = left.kept;
          sweeping = IsSweeping-fewer left.sweeping (λ place. ⊤) (λ place constraint seen here.
              subst (λ n. IsSeen (length constraints) forwards n place) (sym whole)
              (seen_all (length constraints) forwards place
              (slice_get_within constraints place constraint here)));
        };
  }

-- what is left where no values rise above what has room
pub record IsRoomKept (gains : Gains) (old new : Relaxation) : Type 0 where
  pub constraints : new.constraints.now ≡ old.constraints.now
  pub registers : length new.values.items ≡ length old.values.items
  pub parents : length new.parents.items ≡ length old.parents.items
  pub small : All (IsBelow (2 ^ 94)) new.values.items
  pub raised : (them : List Constraint) (begun : List ℤ) → old.constraints.now ≡ them
      → AreRaised them gains begun old.values.items → AreRaised them gains begun new.values.items

-- so where one constraint is looked at, whose tail isn't above the cap
pub IsRoomKept-one : {gains : Gains} {place : ℕ} (answer : Option ℕ) (old : Relaxation)
    {new : Relaxation} (tail : ℤ) {constraint : Constraint} → All (IsBelow (2 ^ 94))
    old.values.items
    → place < length old.constraints.now → constraint ≡ get_or old.constraints.now place nowhere
    → tail ≡ get_or old.values.items constraint.tail tail → tail ≤ℤ pos (2 ^ 93)
    → IsRelaxed old.constraints.now gains place old answer new → IsRoomKept gains old new
IsRoomKept-one {gains} {place} answer old {new} tail {constraint} room within is read low relaxed =
    record {
      constraints = constraints_look gains old new old.small within answer seen;
      registers = raised.registers;
      parents = parents_length gains old new old.small within answer seen;
      small = small_look gains old new old.small within capped room answer seen;
      raised = λ them begun same before. AreRaised-more before
          (subst (λ cs. AreRaised cs gains old.values.items new.values.items) same raised);
    }
  where
    seen : IsLook gains place (get_or old.constraints.now place nowhere) old answer new
    seen = look gains old new old.small within answer relaxed

    raised : AreRaised old.constraints.now gains old.values.items new.values.items
    raised = (raised_look gains old new old.small within answer seen).raised

    -- what is read at the tail is its value
    capped : value_of old.values.items (get_or old.constraints.now place nowhere).tail
        ≤ℤ pos (2 ^ 93)
    capped = subst (λ z. z ≤ℤ pos (2 ^ 93)) (get_or_read old.values.items
        (get_or old.constraints.now place nowhere).tail tail
        (old.small.each place nowhere within).tail (subst (λ (c : Constraint). tail
        ≡ get_or old.values.items c.tail tail) is read) (pos 0)) low
