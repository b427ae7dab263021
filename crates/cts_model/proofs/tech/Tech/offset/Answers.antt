use Rattle.cts_model.proofs.Vocabulary.{◌≤◌, ◌^◌, ◌∙◌, neg_ℤ, ap, arith, unsigned_abs, ints, to_z-of_z, w128, scheduled_length}
use Rattle.cts_model.proofs.GridLemmas.{neg_read, scheduled_size}
use Rattle.cts_model.proofs.tech.Tech.offset.Goals as goal

pub returns : goal.returns
returns c =
    let size = scheduled_size c.args.self.now c.args.arrival (10 ^ 19)
    (omega (arith, ints, c.requires)) in
    let is = c.scheduled_length.ensures ∙ ap (scheduled_length c.args.self.now)
    (to_z-of_z w128 c.args.arrival c.ranges.arrival) in
    let small : unsigned_abs c.scheduled_length.result ≤ 10 ^ 32 =
    omega (arith, size, ap unsigned_abs is) in
    neg_read c.scheduled_length.result small ∙ ap neg_ℤ is
