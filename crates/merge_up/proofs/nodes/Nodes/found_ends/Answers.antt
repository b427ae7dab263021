use Rattle.merge_up.proofs.Vocabulary.{◌≡◌, ◌+◌, ◌-◌, length, arith, slice_get-get_or, numbers_below-sink}
use Rattle.merge_up.proofs.nodes.Nodes.found_ends.Goals as goal

pub returns-then-place-self : goal.returns-then-place-self
returns-then-place-self c =
    let nodes = c.args.self.now in
    rw (numbers_below-sink (length nodes.sinks.now) nodes.merges.now c.args.node
    c.if-place-self.true) (c.of.ensures nodes.sinks.now
    (slice_get-get_or nodes.sinks.now c.args.node _ c.if-place-self.true))

pub returns : goal.returns
returns c =
    let sinks = length c.args.self.now.sinks.now in
    let same : sinks + (c.args.node - sinks) ≡ c.args.node =
    omega (arith, c.if-place-self.false) in
    record {
      high_u = rw same at c.found_end.ensures;
      low_u = rw same at c.found_end-2.ensures;
      high_v = rw same at c.found_end-3.ensures;
      low_v = rw same at c.found_end-4.ensures;
    }
