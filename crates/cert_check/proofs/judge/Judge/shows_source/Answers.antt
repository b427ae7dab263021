-- Each kind of show.
use Rattle.cert_check.proofs.Vocabulary.{◌≡◌, ◌↔◌, ◌+ℤ◌, IsTrue, length, pos, get_or, subst, ◌∙◌, arith, w128, ints, to_z-of_z, Sink, rotated_distance, number_at, ShowsSource, root_of, source_of}
use Rattle.cert_check.proofs.ShowLemmas.{denotes_found, denotes_show}
use Rattle.cert_check.proofs.judge.Judge.shows_source.Goals as goal

pub returns-in-Sink : goal.returns-in-Sink
returns-in-Sink c =
    let none : Sink = record { at = record { u = pos 0; v = pos 0 }; offset = pos 0 } in
    let self = c.args.self.now in
    let sinks = self.sinks.now in
    let register = c.in-Sink.register in
    let reaches = self.report.now.tree.reach in
    let small = c.reach-reach.ensures.small in
    let plain = to_z-of_z w128 c.reach-reach.result
    (omega (arith, ints, small.above, small.below)) ∙ c.reach-reach.ensures.value in
    let denotes = subst (λ z. IsTrue c.is_reach_from.result
    ↔ (z ≡ (get_or sinks register none).offset
    +ℤ rotated_distance self.source (get_or sinks register none).at)) plain
    c.is_reach_from.ensures in
    denotes_show (ShowsSource sinks self.source (number_at reaches (root_of (length sinks)))
    (number_at reaches (source_of (length sinks)))) self.report.now.shows _ _ c.is_reach_from.result
    (omega (arith, self.size.merges, self.count)) c.in-Sink.ensures.found
    (denotes_found (λ sink. number_at reaches (source_of (length sinks))
    ≡ sink.offset +ℤ rotated_distance self.source sink.at) sinks register none
    c.is_reach_from.result c.in-Sink.ensures.among denotes)

pub returns-in-Root : goal.returns-in-Root
returns-in-Root c =
    let self = c.args.self.now in
    let sinks = self.sinks.now in
    let reaches = self.report.now.tree.reach in
    denotes_show (ShowsSource sinks self.source (number_at reaches (root_of (length sinks)))
    (number_at reaches (source_of (length sinks)))) self.report.now.shows _ _ c.are_same.result
    (omega (arith, self.size.merges, self.count)) c.in-Root.ensures.found
    (search (arith, to_z-of_z, ints))
