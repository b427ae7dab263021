use Rattle.report_text.proofs.Vocabulary.{◌≡◌, ◌∷◌, [], ◌+◌, ◌++◌, length, pos, slice_index_or, arith, signed_decimal, Root, length_text, number_at, show_words, suffix}
use Rattle.report_text.proofs.LineLemmas.{after_more, whole_line}
use Rattle.report_text.proofs.tree.push_merge.Goals as goal

pub returns : goal.returns
returns c =
    let report = c.args.printed.now.report.now in
    let node = length report.schedule.at + c.args.place in
    let merge = slice_index_or report.topology.merges c.args.place
    (record { first = 0; second = 0 }) in
    let show = slice_index_or report.shows c.args.place Root in
    let reach = length_text report (number_at report.tree.reach node) in
    let first = signed_decimal (pos merge.first) in
    let second = signed_decimal (pos merge.second) in
    let words = show_words c.args.printed.now.circuit.now show in
    let begun = c.push_node.new.out.items in
    let both = after_more _ _ _ (first ∷ []) (second ∷ []) (rw c.as_slice.ensures at
    c.in_ok-push_number.ensures) (rw c.as_slice.ensures at c.in_ok-push_number-2.ensures) in
    let length : c.push_length.new.out.items
    ≡ c.push_number-2.new.out.items ++ suffix (reach ∷ []) = search arith in
    let reached = after_more _ _ _ (first ∷ second ∷ []) (reach ∷ []) both length in
    let shown = after_more _ _ _ (first ∷ second ∷ reach ∷ []) _ reached
    (rw c.show_at.ensures at c.in_ok-push_shown.ensures) in
    whole_line c.args.out.now.items begun _ _ (signed_decimal (pos node))
    (first ∷ second ∷ reach ∷ words) (rw c.len.ensures at c.in_ok-push_node.ensures) shown
    c.in_ok-push.ensures.items
