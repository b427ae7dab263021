use Rattle.report_text.proofs.Vocabulary.{◌≡◌, ◌∷◌, [], ◌++◌, length, codes, slice_index_or, arith, length_text, number_at, show_words, source_of, Root, suffix}
use Rattle.report_text.proofs.LineLemmas.{after_more, whole_line}
use Rattle.report_text.proofs.tree.push_source.Goals as goal

pub returns : goal.returns
returns c =
    let report = c.args.printed.now.report.now in
    let reach = length_text report
    (number_at report.tree.reach (source_of (length report.schedule.at))) in
    let words = show_words c.args.printed.now.circuit.now
    (slice_index_or report.shows (length report.topology.merges) Root) in
    let begun = c.extend_from_slice.new.self.items in
    let length : c.push_length.new.out.items ≡ begun ++ suffix (reach ∷ []) = search arith in
    let shown = after_more _ _ _ (reach ∷ []) _ length
    (rw (c.show_at.ensures, c.len-merges.ensures) at c.in_ok-push_shown.ensures) in
    whole_line c.args.out.now.items begun _ _ (codes "source") (reach ∷ words)
    c.in_ok-extend_from_slice.ensures.items shown c.in_ok-push.ensures.items
