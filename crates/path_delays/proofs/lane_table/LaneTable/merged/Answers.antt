-- In rows of either width.
use Rattle.path_delays.proofs.lane_table.LaneTable.merged.Goals as goal

pub returns-in-Narrow : goal.returns-in-Narrow
returns-in-Narrow c = rw c.in-Narrow.is c.merged.ensures

pub returns-in-Wide : goal.returns-in-Wide
returns-in-Wide c = rw c.in-Wide.is c.merged-in-Wide.ensures
