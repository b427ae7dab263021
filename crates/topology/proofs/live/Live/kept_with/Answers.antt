use Rattle.topology.proofs.PairLemmas.{kept_ahead, kept_behind}
use Rattle.topology.proofs.live.Live.kept_with.Goals as goal

pub returns-then-self-owner : goal.returns-then-self-owner
returns-then-self-owner c = kept_behind c.args.self.now c.args.owner c.args.other c.pair.result
    c.if-self-owner.true c.pair.ensures

pub returns-then-other-self : goal.returns-then-other-self
returns-then-other-self c = kept_ahead c.args.self.now c.args.owner c.args.other
    c.pair-then-other-self.result c.if-self-owner.false c.if-other-self.true
    c.pair-then-other-self.ensures
