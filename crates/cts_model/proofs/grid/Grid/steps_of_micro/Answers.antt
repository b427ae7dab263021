use Rattle.cts_model.proofs.Vocabulary.{◌≤◌, rules, sym, subst, unsigned_abs}
use Rattle.cts_model.proofs.GridLemmas.{steps_size}
use Rattle.cts_model.proofs.grid.Grid.steps_of_micro.Goals as goal

pub returns-clause-value : goal.returns-clause-value
returns-clause-value c = search rules

pub returns-clause-size : goal.returns-clause-size
returns-clause-size c = subst (λ z. unsigned_abs z ≤ 32776000000) (sym (returns-clause-value c))
    (steps_size c.args.self.now.period c.args.self.now.tech.now c.args.self.now.small)
