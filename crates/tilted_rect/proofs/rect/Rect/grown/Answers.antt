use Rattle.tilted_rect.proofs.Vocabulary.{rules, arith, ints}
use Rattle.tilted_rect.proofs.CodeNumbers.{below_fits, difference_read, sum_read}
use Rattle.tilted_rect.proofs.RectLemmas.{is_rect_along, grown_valid, grown_points}
use Rattle.tilted_rect.proofs.rect.Rect.grown.Goals as goal

pub overflow_sub-result-2 : goal.overflow_sub-result-2
overflow_sub-result-2 c = omega (arith, ints, c.requires.room.vlo)

pub invariant_of-result : goal.invariant_of-result
invariant_of-result c =
    search (arith, is_rect_along, difference_read, below_fits, sum_read, grown_valid)

pub returns-clause-sides : goal.returns-clause-sides
returns-clause-sides c =
    let rect = c.args.self in
    let room = c.requires.room in
    record {
      ulo =
          difference_read rect.ulo c.args.by (search rules) (search rules) (below_fits _ room.ulo);
      uhi = sum_read rect.uhi c.args.by (search rules) (search rules) (below_fits _ room.uhi);
      vlo =
          difference_read rect.vlo c.args.by (search rules) (search rules) (below_fits _ room.vlo);
      vhi = sum_read rect.vhi c.args.by (search rules) (search rules) (below_fits _ room.vhi);
    }

pub returns-clause-points : goal.returns-clause-points
returns-clause-points c =
    grown_points c.args.self _ c.args.by c.requires.least (returns-clause-sides c)
