use Rattle.merge_up.proofs.Vocabulary.{◌-◌, length, inl, inr, arith, merge_here, numbers_below-merge, second_made}
use Rattle.merge_up.proofs.work.Work.renew_from_kept.Goals as goal

pub kept_ends-second-requires : goal.kept_ends-second-requires
kept_ends-second-requires c =
    let sinks = length c.args.sinks.now in
    let place = c.args.node - sinks in
    let here = merge_here c.args.topology.now.merges place (omega (arith, c.requires)) in
    rw c.as_slice-merges.ensures (omega (
      arith,
      c.requires,
      second_made sinks
          c.args.topology.now.merges c.requires.topology.each place _ here,
    ))

pub returns : goal.returns
returns c =
    let sinks = c.args.sinks.now in
    let merges = c.args.topology.now.merges in
    let place = c.args.node - length sinks in
    let here = merge_here merges place (omega (arith, c.requires)) in
    c.hold.ensures sinks merges _ _ c.requires.count
    (numbers_below-merge (length sinks) merges place _ here (c.requires.topology.each place _ here))
    ((rw c.as_slice-merges.ensures at c.kept_ends-first.ensures)
    (λ lower is. c.requires.kept _ lower here (inl is)))
    ((rw c.as_slice-merges.ensures at c.kept_ends-second.ensures)
    (λ lower is. c.requires.kept _ lower here (inr is)))
