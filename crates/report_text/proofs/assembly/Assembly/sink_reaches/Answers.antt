use Rattle.report_text.proofs.Vocabulary.{◌≡◌, ◌<◌, ◌^◌, ◌∷◌, ◌++◌, ◌∙◌, [], List, pos, get_or, get_or-map, length, length-map, take, to_z, of_z, ap, subst, sym, arith, w128, ints, map_more, IsBelow, Timed, sink_reach, map}
use Rattle.report_text.proofs.AssemblyLemmas.{sink_below, small_read}
use Rattle.report_text.proofs.assembly.Assembly.sink_reaches.Goals as goal

pub loop-row-preserved : goal.loop-row-preserved
loop-row-preserved c =
    let place = c.loop-row.row-index in
    let tech = c.args.self.now.tech.now in
    let rows = c.args.self.now.parts.now.body.timings in
    let arrivals = map (λ row. row.arrival) rows in
    let row = c.row-item.result in
    let are = c.as_slice-row-items.ensures in
    let same = ap (λ (one : Timed). one.arrival) c.row-item.is
    ∙ ap (λ (xs : List Timed). (get_or xs place row).arrival) are in
    let within : place < length rows = omega (arith, ap length are, c.loop-row-test.true) in
    let there : place < length arrivals =
    omega (arith, length-map rows (λ row. row.arrival), within) in
    let small = c.args.self.now.small place row within in
    let at = get_or-map (λ (row : Timed). row.arrival) rows place row (pos 0) within in
    let plain : to_z w128 (of_z w128 row.arrival) ≡ get_or arrivals place (pos 0) =
    omega (arith, ints, small, at, same) in
    let is = c.offset.ensures ∙ ap (sink_reach tech) plain in
    let below = subst (IsBelow (10 ^ 32)) (sym (is ∙ ap (sink_reach tech) at))
    (sink_below tech _ small) in
    c.in_ok-push.ensures.items ∙ ap (λ l. l ++ to_z w128 (of_z w128 c.offset.result) ∷ [])
    c.loop-row.invariant ∙ ap (λ reach. map (sink_reach tech) (take place arrivals) ++ reach ∷ [])
    (small_read _ below ∙ is) ∙ sym (map_more (sink_reach tech) arrivals place (pos 0) there)
