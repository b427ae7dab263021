use Rattle.cts_model.proofs.Vocabulary.{◌^◌, rules, sym, subst, IsPointBelow}
use Rattle.cts_model.proofs.GridLemmas.{on_grid_below}
use Rattle.cts_model.proofs.grid.Grid.point.Goals as goal

pub returns-clause-value : goal.returns-clause-value
returns-clause-value c = search rules

pub returns-clause-below : goal.returns-clause-below
returns-clause-below c = subst (IsPointBelow (10 ^ 26)) (sym (returns-clause-value c))
    (on_grid_below c.args.self.now.period c.args.self.now.tech.now c.args.self.now.small
    c.args.point c.requires.near)
