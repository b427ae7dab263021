use Rattle.merge_up.proofs.Vocabulary.{◌-◌, length, inl, inr, arith, merge_here, numbers_below-merge, second_made}
use Rattle.merge_up.proofs.work.Work.renew.Goals as goal

pub found_ends-first-requires-clause-held : goal.found_ends-first-requires-clause-held
found_ends-first-requires-clause-held c =
    let place = c.args.node - length c.args.sinks.now in
    rw c.as_slice-merges.ensures (λ lower is. c.requires.joined _ lower
    (merge_here c.args.topology.now.merges place (omega (arith, c.requires))) (inl is))

pub found_ends-second-requires-clause-held : goal.found_ends-second-requires-clause-held
found_ends-second-requires-clause-held c =
    let place = c.args.node - length c.args.sinks.now in
    rw c.as_slice-merges.ensures (λ lower is. c.requires.joined _ lower
    (merge_here c.args.topology.now.merges place (omega (arith, c.requires))) (inr is))

pub found_ends-second-requires-clause-node : goal.found_ends-second-requires-clause-node
found_ends-second-requires-clause-node c =
    let sinks = length c.args.sinks.now in
    let place = c.args.node - sinks in
    let here = merge_here c.args.topology.now.merges place (omega (arith, c.requires)) in
    rw c.as_slice-merges.ensures (omega (
      arith,
      c.requires,
      second_made sinks
          c.args.topology.now.merges c.requires.topology.each place _ here,
    ))

pub returns : goal.returns
returns c =
    let sinks = c.args.sinks.now in
    let merges = c.args.topology.now.merges in
    let place = c.args.node - length sinks in
    let here = merge_here merges place (omega (arith, c.requires)) in
    c.hold.ensures sinks merges _ _ c.requires.count
    (numbers_below-merge (length sinks) merges place _ here (c.requires.topology.each place _ here))
    (rw c.as_slice-merges.ensures at c.found_ends-first.ensures)
    (rw c.as_slice-merges.ensures at c.found_ends-second.ensures)
