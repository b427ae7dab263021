-- A trial settles the greatest ratio shown, or a register is far up its parents.
use Rattle.critical_cycle.proofs.Vocabulary.{◌∙◌, subst, sym, value_of, SatisfiesGains}
use Rattle.relaxation.specs.Relaxing.{IsFarUp}
use Rattle.critical_cycle.proofs.SearchLemmas.{outcome, settled_at}
use Rattle.critical_cycle.proofs.trials.Trials.settle.Goals as goal

pub returns-clause-settled : goal.returns-clause-settled
returns-clause-settled c =
    let now = c.try_shown.new.self in
    let values = c.settle.new.self.values.items in
    let at = c.try_shown.ensures.reached c.if-not-try_shown.false in
    let kept = c.rescale.ensures.constraints ∙ c.args.self.now.constraints
    ∙ sym c.try_shown.ensures.same.constraints in
    outcome _ _ _ _ c.settle.result (λ satisfies. settled_at now.measure now.constraints.now
    now.first now.shown now.ratio now.trial (value_of values) at.greatest at.at
    (subst (λ them. SatisfiesGains them now.trial 1 (value_of values)) kept satisfies))
    (λ register far. record {
      far_up = subst (λ them. IsFarUp them now.trial c.settle.new.self register) kept far;
      at_shown = record { at = at.at; greatest = at.greatest };
    }) c.settle.ensures.settled
