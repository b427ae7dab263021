use Rattle.report_text.proofs.Vocabulary.{◌≡◌, take, sink_reach, map}
use Rattle.report_text.proofs.assembly.Assembly.sink_reaches.Given as goal

-- the reaches of the sinks so far
abbrev pub invariant-loop-row : goal.invariant-loop-row
invariant-loop-row l = l.reaches.items ≡ map (sink_reach l.self.tech.now)
    (take l.row-index (map (λ row. row.arrival) l.self.parts.now.body.timings))
