-- One constraint more is linked with those before it, if it is tight.
use Rattle.schedule.proofs.Vocabulary.{Arrivals, ◌≡◌, ◌<◌, ◌+◌, ◌∙◌, ℕ, List, length, get_or, set, inl, inr, subst, sym, refl, ap, arith, cases_eq, get_or_default, get_or_read, length-set, Constraint, IsTight, AreTightByTail, IsLastBefore, IsTightFrom, nowhere}
use Rattle.relaxation.proofs.SetLemmas.{at_set}

module _ {arrivals : Arrivals} {end : ℕ} {last before : List ℕ}
    (tails : AreTightByTail arrivals end last before)
    (within : end < length arrivals.constraints.now) where
  -- the constraint
  abbrev it : Constraint
  it = get_or arrivals.constraints.now end nowhere

  -- what is read at the end, whatever stands past it
  at_end : (place : ℕ) (default : Constraint) → place ≡ end
      → get_or arrivals.constraints.now place default ≡ it
  at_end place default same = ap (λ p. get_or arrivals.constraints.now p default) same
      ∙ get_or_default arrivals.constraints.now end default nowhere within

  -- the last of a register from which it isn't tight
  last_there : (register : ℕ) → register < length arrivals.at.now
      → (IsTightFrom arrivals register it → ⊥)
      → IsLastBefore arrivals (end + 1) register (get_or last register 0)
  last_there register inside loose = let old = tails.last_is register inside in record {
    within = omega (arith, old.within);
    here = old.here;
    none = λ place default past below from. elim (cases_eq place end) [
      | inl same ↦ loose (subst (IsTightFrom arrivals register) (at_end place default same) from)
      | inr other ↦ old.none place default past (omega (arith, below, other)) from
    ];
  }

  -- one that isn't tight changes nothing
  pub AreTightByTail-loose : (IsTight arrivals.period arrivals.at.now it → ⊥)
      → AreTightByTail arrivals (end + 1) last before
  AreTightByTail-loose loose = record {
    lasts = tails.lasts;
    befores = tails.befores;
    last_is = λ register inside. last_there register inside (λ from. loose from.tight);
    before_is = λ register place default below from. elim (cases_eq place end) [
      | inl same ↦ absurd (loose (subst (IsTightFrom arrivals register)
          (at_end place default same) from).tight)
      | inr other ↦
          tails.before_is register place default (omega (arith, below, other)) from
    ];
  }

  module _ (known : it.tail < length arrivals.at.now)
      (tight : IsTight arrivals.period arrivals.at.now it) where
    -- it is the last of its tail
    last_here : IsLastBefore arrivals (end + 1) it.tail (end + 1)
    last_here = record {
      within = omega arith;
      here = λ place default next. subst (IsTightFrom arrivals it.tail)
          (sym (at_end place default (omega (arith, next))))
          (record { tail = refl; tight = tight });
      none = λ place default past below from. absurd (omega (arith, past, below));
    }

    -- one that is tight is linked with the last of its tail
    pub AreTightByTail-more : (now : ℕ) → now ≡ get_or last it.tail now
        → AreTightByTail arrivals (end + 1) (set last it.tail (end + 1)) (set before end now)
    AreTightByTail-more now read = record {
      lasts = length-set last it.tail (end + 1) ∙ tails.lasts;
      befores = length-set before end now ∙ tails.befores;
      last_is = at_set (λ register mark. register < length arrivals.at.now → IsLastBefore arrivals
          (end + 1) register mark) last it.tail (end + 1) 0 (omega (arith, known, tails.lasts))
          (λ inside. last_here)
          (λ register apart inside. last_there register inside (λ from. apart (sym from.tail)));
      before_is = λ register place default. at_set (λ place mark. place < end + 1 → IsTightFrom
          arrivals register (get_or arrivals.constraints.now place default)
          → IsLastBefore arrivals place register mark) before end now 0
          (omega (arith, within, tails.befores))
          (λ below from. subst (λ r. IsLastBefore arrivals end r now)
          (subst (IsTightFrom arrivals register) (at_end end default refl) from).tail
          (rw now_is (tails.last_is it.tail known)))
          (λ other apart below from.
          tails.before_is register other default (omega (arith, below, apart)) from) place;
    }
      where
        -- what the code reads
        now_is : now ≡ get_or last it.tail 0
        now_is = get_or_read last it.tail now (omega (arith, known, tails.lasts)) read 0
