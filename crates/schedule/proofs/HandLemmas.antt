-- What is looked at from each register that is taken.
use Rattle.schedule.proofs.Vocabulary.{Arrivals, ◌≡◌, ◌<◌, ◌≤◌, ◌+◌, ◌∙◌, ℕ, zero, suc, ℤ, pos, negsuc, ◌≤ℤ◌, ◌<ℤ◌, false, List, Contains, length, get_or, inl, inr, subst, sym, refl, arith, true≢false, ap, cases_eq, cases_lt, ints, get_or_default, get_or_read, Constraint, Reach, Tight, arrival_of, IsTight, IsTightLead, depth_of, lead_at, AreTightByTail, IsLastBefore, IsTightFrom, IsAdded, IsGrown, IsHanded, IsHandedBy, IsReachKept, IsReached, IsReaching, nowhere}
use Rattle.std.proofs.lemmas.List.Elements.{Contains-get_or}
use Rattle.schedule.proofs.ReachLemmas.{IsReachKept-added, IsReaching-added, flag_here}

-- the constraints that lead from the register are looked at, up to the mark's
pub record IsHanding (arrivals : Arrivals)
    (register mark : ℕ) (old new : Reach) : Type 0 where
  pub handed : IsHanded arrivals register mark old new
  pub next : IsLastBefore arrivals mark register mark
  pub bound : mark ≤ length arrivals.constraints.now

-- so many in the queue are taken
pub record IsTaking (arrivals : Arrivals)
    (taken : ℕ) (reach : Reach) : Type 0 where
  pub reaching : IsReaching arrivals (length arrivals.at.now) reach
  pub within : taken ≤ length reach.queue.items
  pub handed : (turn place : ℕ) (default : Constraint)
      → turn < taken → place < length arrivals.constraints.now →
      (get_or arrivals.constraints.now place default).tail
      ≡ get_or reach.queue.items turn 0 → IsHandedBy arrivals reach place

-- nothing changed
IsReachKept-same : (reach : Reach) → IsReachKept reach reach
IsReachKept-same reach = record {
  kept = λ register reached. reached;
  longer = omega arith;
  same = λ place below. refl;
}

-- one step after the other
IsReachKept-then : {first second third : Reach} → IsReachKept first second
    → IsReachKept second third → IsReachKept first third
IsReachKept-then one two = record {
  kept = λ register reached. two.kept register (one.kept register reached);
  longer = omega (arith, one.longer, two.longer);
  same = λ place below.
      two.same place (omega (arith, below, one.longer)) ∙ one.same place below;
}

-- a number from 0 on that isn't 0
above_zero : (z : ℤ) → pos 0 ≤ℤ z → (z ≡ pos 0 → ⊥) → pos 0 <ℤ z
above_zero (pos zero) from late = absurd (late refl)
above_zero (pos (suc n)) from late = omega (arith, ints)
above_zero (negsuc n) from late = absurd (omega (arith, ints))

module _ {arrivals : Arrivals} {old : Reach}
    (reaching : IsReaching
    arrivals (length arrivals.at.now) old) (place : ℕ)
    (within : place < length arrivals.constraints.now) where
  -- the constraint
  abbrev it : Constraint
  it = get_or arrivals.constraints.now place nowhere

  -- its head is a register
  head : it.head < length arrivals.at.now
  head = (arrivals.given.small.each place nowhere within).head

  module _ (tail : IsReached old it.tail)
      (first : get_or old.reached.items it.head false ≡ false)
      (tight : IsTight arrivals.period arrivals.at.now it)
      (depth : ℕ) (depth_is : depth ≡ 1 + depth_of (lead_at old.leads.items it.tail)) where
    -- it leads to its head
    led : IsTightLead (Contains arrivals.constraints.now) arrivals.period arrivals.at.now
        old.leads.items it.head depth it
    led = record {
      late = above_zero (arrival_of arrivals.at.now it.head) (arrivals.given.from_zero it.head head)
          (λ zero. true≢false (sym (reaching.zeros it.head head zero) ∙ first));
      led = record {
        given = Contains-get_or arrivals.constraints.now place nowhere within;
        head = refl;
        tight = tight;
        depth_is = depth_is;
      };
    }

    -- a tight constraint from a register that is reached gives its head a lead
    pub IsGrown-offered : {new : Reach} → IsAdded it.head (Tight depth it) old new
        → IsGrown arrivals place old new
    IsGrown-offered {new} added = record {
      keeps = IsReachKept-added reaching added head first;
      reaching = IsReaching-added reaching added head first led tail (omega (
        arith,
        depth_is,
        reaching.low it.tail,
      )) (length arrivals.at.now) head (omega arith) (λ other early. inl early);
      handed = λ default is.
          subst (λ (c : Constraint). IsReached new c.head) (get_or_default
          arrivals.constraints.now place nowhere default within)
          (flag_here reaching added head first);
    }

-- a constraint that is tight and has the tail, whatever stands past the end
from_here : {arrivals : Arrivals} {register : ℕ} (place : ℕ)
    → place < length arrivals.constraints.now → (default any : Constraint)
    → (get_or arrivals.constraints.now place default).tail ≡ register
    → IsTight arrivals.period arrivals.at.now (get_or arrivals.constraints.now place any)
    → IsTightFrom arrivals register (get_or arrivals.constraints.now place any)
from_here {arrivals} place within default any tail tight = record {
  tail = ap (λ (c : Constraint). c.tail)
      (get_or_default arrivals.constraints.now place any default within) ∙ tail;
  tight = tight;
}

module _ {arrivals : Arrivals}
    {register mark : ℕ} {old : Reach} where
  -- at first all constraints are left
  pub IsHanding-none : IsReaching arrivals (length arrivals.at.now) old → IsLastBefore arrivals
      (length arrivals.constraints.now) register mark → IsHanding arrivals register mark old old
  IsHanding-none reaching last = record {
    handed = record {
      keeps = IsReachKept-same old;
      reaching = reaching;
      handed = λ place default past within tail any tight. absurd (last.none place any past within
          (from_here place within default any tail tight));
    };
    next = record {
      within = omega arith;
      here = last.here;
      none = λ place default past below. absurd (omega (arith, past, below));
    };
    bound = last.within;
  }

  -- the mark that is read at the mark's constraint
  pub next_mark : {now : Reach} {last before : List ℕ} → IsHanding arrivals register mark old now
      → AreTightByTail arrivals (length arrivals.constraints.now) last before → (place : ℕ)
      → place + 1 ≡ mark → (next : ℕ) → next ≡ get_or before place next
      → IsLastBefore arrivals place register next
  next_mark {before = before} handing tails place place_is next read =
      let within : place < length arrivals.constraints.now =
      omega (arith, place_is, handing.bound) in
      subst (IsLastBefore arrivals place register)
      (sym (get_or_read before place next (omega (arith, within, tails.befores)) read 0))
      (tails.before_is register place nowhere within (handing.next.here place nowhere place_is))

  -- the mark's constraint is looked at
  pub IsHanding-more : {now new : Reach} → IsHanding arrivals register mark old now
      → (place : ℕ) → place + 1 ≡ mark → IsGrown arrivals place now new → (before : ℕ)
      → IsLastBefore arrivals place register before
      → IsHanding arrivals register before old new
  IsHanding-more {now} {new} handing place place_is grown before last = record {
    handed = record {
      keeps = IsReachKept-then handing.handed.keeps grown.keeps;
      reaching = grown.reaching;
      handed = handed;
    };
    next = record {
      within = omega arith;
      here = last.here;
      none = λ other default past below. absurd (omega (arith, past, below));
    };
    bound = omega (arith, last.within, place_is, handing.bound);
  }
    where
      -- what is looked at now
      handed : (other : ℕ) (default : Constraint) → before ≤ other → other < length
          arrivals.constraints.now
          → (get_or arrivals.constraints.now other default).tail ≡ register
          → IsHandedBy arrivals new other
      handed other default past within is = elim (cases_lt place other) [
        | inl later ↦ λ any tight. grown.keeps.kept (get_or arrivals.constraints.now other any).head
            (handing.handed.handed other default (omega (arith, place_is, later)) within is any
            tight)
        | inr not_later ↦ elim (cases_eq other place) [
          | inl same ↦ subst (IsHandedBy arrivals new) (sym same) grown.handed
          | inr apart ↦ λ any tight. absurd (last.none other any past
              (omega (arith, not_later, apart)) (from_here other within default any is tight))
        ]
      ]

module _ {arrivals : Arrivals} {taken : ℕ}
    {now : Reach} where
  -- the next register of the queue is taken
  pub IsTaking-more : {new : Reach} → IsTaking arrivals taken now → taken < length
      now.queue.items → (register : ℕ) → register ≡ get_or now.queue.items taken register → IsHanded
      arrivals register 0 now new → IsTaking arrivals (taken + 1) new
  IsTaking-more {new} taking below register read more = record {
    reaching = more.reaching;
    within = omega (arith, below, more.keeps.longer);
    handed = handed;
  }
    where
      -- what is handed on by those that are taken
      handed : (turn place : ℕ) (default : Constraint)
          → turn < taken + 1 → place < length arrivals.constraints.now →
          (get_or arrivals.constraints.now place default).tail
          ≡ get_or new.queue.items turn 0 → IsHandedBy arrivals new place
      handed turn place default early within is = elim (cases_eq turn taken) [
        | inl same ↦ more.handed place default (omega arith)
            within (is ∙ (ap (λ t. get_or new.queue.items t 0) same ∙ (more.keeps.same taken below
            ∙ sym (get_or_read now.queue.items taken register below read 0))))
        | inr apart ↦
            let before : turn < taken = omega (arith, early, apart) in
            λ any tight. more.keeps.kept (get_or arrivals.constraints.now place any).head
            (taking.handed turn place default before within
            (is ∙ more.keeps.same turn (omega (arith, before, below))) any tight)
      ]
