-- The search for the greatest ratio: what it keeps from trial to trial.
use Rattle.std.specs.Prelude.{◌≡◌, ◌≢◌, ℕ, List, length}
use Rattle.cts_base.specs.declared.fraction.Fraction.{Fraction}
use Rattle.cts_model.specs.declared.constraint.Constraint.{Constraint}
use Rattle.relaxation.specs.Relaxing.{IsFarUp}
use Rattle.critical_cycle.specs.Measures.{IsTrialAt}
use Rattle.critical_cycle.specs.ShownRatios.{IsGreatestShown}
use Rattle.critical_cycle.specs.declared.measure.Measure.{Measure}
use Rattle.critical_cycle.specs.declared.search.Search.{Search}
use Rattle.critical_cycle.specs.declared.trials.Trials.{Trials}

-- the search is for the greatest ratio of these constraints from the first one on
pub record IsSearchFor (constraints : List Constraint) (measure : Measure) (first : Fraction)
    (search : Search) : Type 0 where
  pub constraints_are : search.constraints.now ≡ constraints
  pub measure_is : search.measure ≡ measure
  pub first_is : search.first ≡ first

-- the search is for the same as before, over as many registers
pub record IsSameSearch (old new : Search) : Type 0 where
  pub constraints : new.constraints.now ≡ old.constraints.now
  pub measure : new.measure ≡ old.measure
  pub first : new.first ≡ old.first
  pub registers : length new.places.items ≡ length old.places.items

-- the trial is that of the greatest ratio shown
pub record IsAtShown (search : Search) : Type 0 where
  pub at : IsTrialAt search.measure search.ratio search.trial
  pub greatest : IsGreatestShown search.first search.shown search.ratio

-- a register far up the parents of the trial at the greatest ratio shown
pub record IsAtRing (trials : Trials) (register : ℕ) : Type 0 where
  pub far_up : IsFarUp trials.search.constraints.now trials.search.trial trials.relaxation register
  pub at_shown : IsAtShown trials.search

-- the two lead to one another's tail, and those are two registers
pub record CloseACycle (first second : Constraint) : Type 0 where
  pub there : first.head ≡ second.tail
  pub back : second.head ≡ first.tail
  pub apart : first.tail ≢ second.tail
