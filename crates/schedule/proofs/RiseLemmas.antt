-- Arrivals that rise: raises keep them from 0 on and no later than any that satisfy the
-- constraints, so where they come to satisfy them they are the least that do.
use Rattle.schedule.proofs.Vocabulary.{◌≡◌, ◌<◌, ◌≤◌, ◌^◌, ℕ, ℤ, pos, ◌*ℤ◌, ◌≤ℤ◌, List, length, replicate, All, subst, sym, arith, get_or-replicate, length-replicate, ints, Constraint, IsBelow, AreFromZero, arrival_of, Gains, SatisfiesGains, AreLeastArrivalsBy, CanRaise, CanSchedule}
use Rattle.relaxation.specs.Parents.{value_of}
use Rattle.relaxation.specs.Rises.{AreRaised}
use Rattle.relaxation.proofs.RiseLemmas.{small_wider}
use Rattle.schedule.proofs.BoundLemmas.{small_rising}

-- arrivals that can be raised are small
pub small_ready : {constraints : List Constraint} {gains : Gains} (at : List ℤ) (bound : ℕ)
    → 2 ^ 93 ≤ bound → CanRaise constraints gains at → All (IsBelow bound) at
small_ready {constraints} {gains} at bound enough ready =
    small_wider (2 ^ 93) bound at enough (small_rising constraints gains at ready.can ready.rising)

-- what is 0 is no later than what is from 0 on
zero_first : (times : ℕ) (other : ℤ) → pos 0 ≤ℤ other → (pos times *ℤ pos 0) ≤ℤ other
zero_first times other from = omega (arith, ints)

-- arrivals of 0 can be raised
pub CanRaise-zero : {constraints : List Constraint} {gains : Gains} (registers : ℕ) → CanSchedule
    constraints gains registers → CanRaise constraints gains (replicate registers (pos 0))
CanRaise-zero {constraints} {gains} registers can = record {
  can = subst (CanSchedule constraints gains) (sym long) can;
  rising = record {
    from_zero = λ register within.
        subst (λ z. pos 0 ≤ℤ z) (sym (zero_at register within)) (omega (arith, ints));
    least = λ times other some others satisfied register within.
        subst (λ z. (pos times *ℤ z) ≤ℤ other register) (sym (zero_at register within))
        (zero_first times (other register) (others register within));
  };
}
  where
    -- there are so many
    long : length (replicate registers (pos 0)) ≡ registers
    long = length-replicate registers (pos 0)

    -- each is 0
    zero_at : (register : ℕ) → register < length (replicate registers (pos 0))
        → arrival_of (replicate registers (pos 0)) register ≡ pos 0
    zero_at register within =
        get_or-replicate registers register (pos 0) (pos 0) (omega (arith, long))

module _ {constraints : List Constraint} {gains : Gains} {old new : List ℤ}
    (raised : AreRaised constraints gains old new) where
  -- what is raised can be raised on
  pub CanRaise-raised : CanRaise constraints gains old → CanRaise constraints gains new
  CanRaise-raised ready = record {
    can = subst (CanSchedule constraints gains) (sym raised.registers) ready.can;
    rising = record {
      from_zero = raised.low (pos 0) ready.rising.from_zero;
      least = λ times other some others satisfied.
          raised.below times other satisfied (ready.rising.least
          times other some (subst (λ n. AreFromZero n other) raised.registers others) satisfied);
    };
  }

  -- where they come to satisfy the constraints they are the least
  pub least_settled : SatisfiesGains constraints gains 1 (value_of new)
      → CanRaise constraints gains old → AreLeastArrivalsBy constraints gains new
  least_settled satisfied ready =
      let rising = (CanRaise-raised ready).rising in
      record { satisfies = satisfied; from_zero = rising.from_zero; least = rising.least }
