use Rattle.topology.proofs.Vocabulary.{◌≡◌, None, Some, rules, sym, ◌∙◌, w128, to_z-of_z, Cluster}
use Rattle.topology.proofs.PairLemmas.{found_pair, no_pair}
use Rattle.topology.proofs.live.Live.pair.Goals as goal

none_some : (cluster : Cluster) → None ≡ Some cluster → ⊥
none_some cluster is = absurd (cc)

pub returns-in_default : goal.returns-in_default
returns-in_default c = no_pair c.args.self.now c.args.first c.args.second
    (λ one other has other_has. none_some other
    (sym c.in_default.is-1 ∙ c.at-2.ensures ∙ other_has))

pub returns-in_default-2 : goal.returns-in_default-2
returns-in_default-2 c = no_pair c.args.self.now c.args.first c.args.second
    (λ one other has other_has. none_some one
    (sym c.in_default.is-0 ∙ c.at.ensures ∙ has))

pub returns : goal.returns
returns c = found_pair c.args.self.now c.args.first c.args.second c.in-Some-Some.one
    c.in-Some-Some.other _ c.if-second-first.false
    (sym c.at.ensures ∙ c.in-Some-Some.is-0)
    (sym c.at-2.ensures ∙ c.in-Some-Some.is-1)
    (to_z-of_z w128 c.cost.result (search rules) ∙ c.cost.ensures.value)
