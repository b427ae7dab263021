use Rattle.place_down.proofs.Vocabulary.{pos, arith, ints, get_or_from_slice_get, difference_read}
use Rattle.place_down.proofs.top_down.settle_below.Goals as goal

pub returns : goal.returns
returns c =
    let own = get_or_from_slice_get c.args.work.now.tree.reach c.args.node c.reach.result (pos 0)
    c.reach.ensures.value in
    let fits = rw own at c.requires.own in
    let length = difference_read c.args.reach c.reach.result (omega (arith, ints, c.requires.wide))
    (omega (arith, ints, fits)) (omega (arith, ints, fits, c.requires.wide)) in
    record {
      region = c.region.result;
      found = c.nearest-found.result;
      region_held = c.region.ensures.value;
      nearest = c.nearest-found.ensures.nearest;
      multiple = c.nearest-found.ensures.multiple;
      placed = rw own (rw length at c.settle.ensures);
    }
