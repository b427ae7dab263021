use Rattle.report_text.proofs.Vocabulary.{◌∙◌, ap, sym, rules, tests, refl, [], ◌++◌, ◌∷◌}
use Rattle.std.proofs.lemmas.Iterator.{items_from_collect, YieldsList-from_map, YieldsList-from_slice}
use Rattle.std.proofs.lemmas.Result.{IfOk-at_ok}
use Rattle.report_text.proofs.assembly.Assembly.columns.Goals as goal

pub returns-clause-at : goal.returns-clause-at
returns-clause-at c = c.from_vec.ensures
    ∙ IfOk-at_ok _ c.in_ok-at.was (items_from_collect _ c.collect.ensures.ran
    (YieldsList-from_map _ (λ row. row.arrival)
    (YieldsList-from_slice c.args.self.now.parts.now.body.timings cc)
    c.map.ensures.closure (λ x r q k. search (rules, tests))))

pub returns-clause-slacks : goal.returns-clause-slacks
returns-clause-slacks c = c.from_vec-2.ensures
    ∙ IfOk-at_ok _ c.in_ok-slacks.was (items_from_collect _ c.collect-2.ensures.ran
    (YieldsList-from_map _ (λ row. row.slack)
    (YieldsList-from_slice c.args.self.now.parts.now.body.timings cc)
    c.map-2.ensures.closure (λ x r q k. search (rules, tests))))

pub returns-clause-merges : goal.returns-clause-merges
returns-clause-merges c = c.from_vec-3.ensures
    ∙ IfOk-at_ok _ c.in_ok-merges.was (items_from_collect _ c.collect-3.ensures.ran
    (YieldsList-from_map _ (λ row. row.merge)
    (YieldsList-from_slice c.args.self.now.parts.now.body.merged cc)
    c.map-3.ensures.closure (λ x r q k. search (rules, tests))))

pub returns-clause-shows : goal.returns-clause-shows
returns-clause-shows c = c.from_vec-4.ensures ∙ c.in_ok-push.ensures.items
    ∙ ap (λ shows. shows ++ c.args.self.now.parts.now.body.source.show ∷ [])
    (IfOk-at_ok _ c.in_ok-shows.was (items_from_collect _ c.collect-4.ensures.ran
    (YieldsList-from_map _ (λ row. row.show)
    (YieldsList-from_slice c.args.self.now.parts.now.body.merged cc)
    c.map-4.ensures.closure (λ x r q k. search (rules, tests)))))

pub returns-clause-wires : goal.returns-clause-wires
returns-clause-wires c = c.from_vec-5.ensures
    ∙ IfOk-at_ok _ c.in_ok-wires.was (items_from_collect _ c.collect-5.ensures.ran
    (YieldsList-from_map _ (λ row. row.wire)
    (YieldsList-from_slice c.args.self.now.parts.now.body.placed cc)
    c.map-5.ensures.closure (λ x r q k. search (rules, tests))))

pub returns-clause-tree : goal.returns-clause-tree
returns-clause-tree c =
    let wires = sym c.from_vec-5.ensures ∙ returns-clause-wires c in
    rw (c.in_ok-tree.ensures, c.begin_of.ensures, c.deref.ensures.value, wires) refl
