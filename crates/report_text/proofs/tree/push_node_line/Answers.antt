use Rattle.report_text.proofs.Vocabulary.{◌≡◌, ◌∷◌, [], ◌++◌, pos, slice_index_or, arith, signed_decimal, length_text, no_wire, number_at, origin, point_words, suffix, wire_words}
use Rattle.report_text.proofs.LineLemmas.{after_more, whole_line}
use Rattle.report_text.proofs.tree.push_node_line.Goals as goal

pub returns : goal.returns
returns c =
    let report = c.args.printed.now.report.now in
    let place = point_words report (slice_index_or report.tree.place c.args.node origin) in
    let length = length_text report (number_at report.tree.length c.args.node) in
    let wire = wire_words report (slice_index_or report.wires c.args.node no_wire) in
    let begun = c.push_node.new.out.items in
    let edge : c.push_length.new.out.items ≡ c.push_point.new.out.items ++ suffix (length ∷ []) =
    search arith in
    let both = after_more _ _ _ place (length ∷ [])
    (rw c.as_slice.ensures at c.in_ok-push_point.ensures) edge in
    let drawn = after_more _ _ _ (place ++ length ∷ []) wire both
    (rw c.wire_at.ensures.value at c.in_ok-push_wire.ensures) in
    whole_line c.args.out.now.items begun _ _ (signed_decimal (pos c.args.node))
    (place ++ length ∷ wire) c.in_ok-push_node.ensures drawn c.in_ok-push.ensures.items
