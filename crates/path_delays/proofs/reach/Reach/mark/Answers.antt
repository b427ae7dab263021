-- What stood there is joined with the sums.
use Rattle.path_delays.proofs.Hands.{IsMarked-joined}
use Rattle.path_delays.proofs.reach.Reach.mark.Goals as goal

pub returns : goal.returns
returns c = IsMarked-joined c.args.self.now c.args.lane.number c.args.signal c.args.sums
    c.contains-first.result c.insert.new.self c.join.new.self c.args.lane.low c.requires.room.row
    c.contains-first.ensures c.insert.ensures c.join.ensures.limit c.join.ensures.sums
