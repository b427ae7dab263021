-- The listed parent is the node's.
use Rattle.cert_check.proofs.Vocabulary.{◌<◌, ◌*◌, length, sym, subst, ◌∙◌, get_or_default, IsParent, parent_above}
use Rattle.cert_check.proofs.EdgeLemmas.{listed}
use Rattle.cert_check.proofs.shaped.ShapedTree.parent_of.Goals as goal

pub returns-clause-parent : goal.returns-clause-parent
returns-clause-parent c =
    let self = c.args.self.now in
    subst (IsParent (length self.judge.sinks.now) self.judge.report.now.topology.merges c.args.node)
    (sym (c.index.ensures ∙ get_or_default self.parents.items c.args.node c.index.result.now 0
    c.requires)) (listed self.parents.items self.are c.args.node c.requires)

pub returns-clause-above : goal.returns-clause-above
returns-clause-above c = parent_above c.args.self.now.are.topology c.args.node _
    (returns-clause-parent c)

pub returns-clause-stands : goal.returns-clause-stands
returns-clause-stands c =
    let self = c.args.self.now in
    subst (λ parent. parent < 2 * length self.judge.sinks.now)
    (sym (c.index.ensures ∙ get_or_default self.parents.items c.args.node c.index.result.now 0
    c.requires)) (self.are.nodes c.args.node 0 c.requires)
