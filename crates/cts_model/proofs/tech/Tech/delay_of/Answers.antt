-- The table's facts hold of each of its rows.
use Rattle.cts_model.proofs.DelayRows.{row_valid}
use Rattle.cts_model.proofs.tech.Tech.delay_of.Goals as goal

pub returns-clause-valid : goal.returns-clause-valid
returns-clause-valid c =
    row_valid c.args.self.now.gates c.place_of.result c.args.self.now.valid.gates_within
