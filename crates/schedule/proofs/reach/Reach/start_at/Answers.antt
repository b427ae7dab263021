use Rattle.schedule.proofs.Vocabulary.{rules, ◌≡◌, ◌+◌, pos, arith, on_ok_weaker, arrival_of}
use Rattle.schedule.proofs.ReachLemmas.{IsReaching-added, next_or_before}
use Rattle.schedule.proofs.reach.Reach.start_at.Goals as goal

pub returns : goal.returns
returns c =
    let register = c.args.register in
    let reaching = c.requires.reaching in
    let zero : arrival_of c.args.arrivals.now.at.now register ≡ pos 0 = search rules in
    on_ok_weaker c.add.result (λ added. IsReaching-added
    reaching added c.requires.within (reaching.fresh register (omega arith)) zero tt (omega arith)
    (register + 1) (omega arith) (omega arith) (next_or_before register)) c.add.ensures
