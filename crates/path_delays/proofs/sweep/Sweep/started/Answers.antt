-- The arrival is below 10^19 in size.
use Rattle.std.proofs.Common.{◌*◌, ◌^◌, pos, get_or, arith}
use Rattle.path_delays.proofs.WindowLemmas.{kept, edge_below, below_wider}
use Rattle.path_delays.proofs.sweep.Sweep.started.Goals as goal

pub suffix-requires-clause-window : goal.suffix-requires-clause-window
suffix-requires-clause-window c =
    let time = get_or c.args.self.now.schedule.now.at c.args.from (pos 0) in
    let small = edge_below (10 ^ 19) time (omega arith)
    (c.args.self.now.small c.args.from (pos 0) c.requires) in
    rw c.as_slice.ensures (below_wider (10 ^ 19) (2 * 10 ^ 19)
    (record { earliest = kept time; latest = kept time }) (omega arith) small)

pub returns-clause-small : goal.returns-clause-small
returns-clause-small c =
    let time = get_or c.args.self.now.schedule.now.at c.args.from (pos 0) in
    let small = edge_below (10 ^ 19) time (omega arith)
    (c.args.self.now.small c.args.from (pos 0) c.requires) in
    c.suffix.ensures.small (10 ^ 19) (rw c.as_slice.ensures small)
