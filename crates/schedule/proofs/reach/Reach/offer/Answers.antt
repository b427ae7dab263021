use Rattle.schedule.proofs.Vocabulary.{rules, ◌≡◌, ◌<◌, ◌+◌, ◌∙◌, length, false, get_or, ap, arith, on_ok_weaker, get_or_read, Constraint, Zero, depth_of, lead_at, nowhere}
use Rattle.schedule.proofs.HandLemmas.{IsGrown-offered}
use Rattle.schedule.proofs.reach.Reach.offer.Goals as goal

pub returns : goal.returns
returns c =
    let it : Constraint = get_or c.args.arrivals.now.constraints.now c.args.place nowhere in
    let old = c.args.self.now in
    let first : get_or old.reached.items it.head false ≡ false = search rules in
    let small = c.args.arrivals.now.given.small.each c.args.place nowhere c.requires.place in
    let tail : it.tail < length old.leads.items =
    omega (arith, small.tail, c.requires.reaching.long) in
    let read = get_or_read old.leads.items it.tail c.index-2.result.now tail
    c.index-2.ensures Zero in
    let depth_is : c.depth_of-depth.result + 1 ≡ 1 + depth_of (lead_at old.leads.items it.tail) =
    omega (arith, c.depth_of-depth.ensures ∙ ap depth_of read) in
    on_ok_weaker
    c.add.result (IsGrown-offered c.requires.reaching c.args.place c.requires.place
    (c.requires.tail nowhere) first (c.requires.tight nowhere) (c.depth_of-depth.result + 1)
    depth_is) c.add.ensures
