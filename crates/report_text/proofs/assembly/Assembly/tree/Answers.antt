use Rattle.report_text.proofs.Vocabulary.{◌≡◌, map, rules, tests}
use Rattle.std.proofs.lemmas.Iterator.{items_from_collect, YieldsList-from_map, YieldsList-from_slice}
use Rattle.std.proofs.lemmas.Result.{IfOk-at_ok}
use Rattle.report_text.proofs.assembly.Assembly.tree.Goals as goal

pub returns : goal.returns
returns c =
    let body = c.args.self.now.parts.now.body in
    let merges : c.in_ok-merges.merges.items ≡ map (λ row. row.reach) body.merged =
    IfOk-at_ok _ c.in_ok-merges.was (items_from_collect _ c.collect.ensures.ran
    (YieldsList-from_map _ (λ row. row.reach) (YieldsList-from_slice body.merged cc)
    c.map.ensures.closure (λ x r q k. search (rules, tests)))) in
    let places : c.in_ok-place.place.items ≡ map (λ row. row.place) body.placed =
    IfOk-at_ok _ c.in_ok-place.was (items_from_collect _ c.collect-2.ensures.ran
    (YieldsList-from_map _ (λ row. row.place) (YieldsList-from_slice body.placed cc)
    c.map-2.ensures.closure (λ x r q k. search (rules, tests)))) in
    let lengths : c.in_ok-length.length.items ≡ map (λ row. row.length) body.placed =
    IfOk-at_ok _ c.in_ok-length.was (items_from_collect _ c.collect-3.ensures.ran
    (YieldsList-from_map _ (λ row. row.length) (YieldsList-from_slice body.placed cc)
    c.map-3.ensures.closure (λ x r q k. search (rules, tests)))) in
    search (rules, merges, places, lengths)
