use Rattle.merge_up.proofs.Vocabulary.{◌≡◌, ◌+◌, ◌-◌, length, slice_get, arith, get_or_from_slice_get, slice_get-get_or, numbers_below, numbers_below-sink, some_and, AreEnds}
use Rattle.merge_up.proofs.nodes.Nodes.kept_ends.Goals as goal

pub returns-then-place-self : goal.returns-then-place-self
returns-then-place-self c = λ held.
    let nodes = c.args.self.now in
    rw (numbers_below-sink (length nodes.sinks.now) nodes.merges.now c.args.node
    c.if-place-self.true) (c.of.ensures nodes.sinks.now
    (slice_get-get_or nodes.sinks.now c.args.node _ c.if-place-self.true))

pub returns-else-place-self : goal.returns-else-place-self
returns-else-place-self c = λ held.
    let nodes = c.args.self.now in
    let sinks = nodes.sinks.now in
    let place = c.args.node - length sinks in
    let at : c.args.node ≡ length sinks + place = omega (arith, c.if-place-self.false) in
    let (ends, there, are) = some_and (slice_get nodes.work.now.ends place)
    (AreEnds sinks (numbers_below (length sinks) nodes.merges.now (length sinks + place)))
    (held place at) in
    rw (
      at,
      rw c.kept.ensures.value at c.index-kept-place.is,
      get_or_from_slice_get nodes.work.now.ends place ends c.index-kept-place.result there,
    ) are
