-- What a report shows of a problem is so.
use Rattle.cts_model.proofs.Vocabulary.{◌≡◌, ◌⊎◌, ℕ, ◌<◌, ◌≤◌, ◌+◌, ◌*◌, List, length, inl, inr, sym, subst, ◌∙◌, arith, IfSome, cases_lt, slice_get_past, Sink, Problem, Report, embedding_of, IsOfSize, IsWithinBounds, number_at, origin, ShowsLeast, IsShown, sinks_in, source_in}
use Rattle.std.specs.Prelude.{slice_get}
use Rattle.cts_model.proofs.ShownTimings.{shown_meets, shown_period, shown_schedule}
use Rattle.cts_model.proofs.ShownTrees.{shown_embedding, shown_offsets, shown_topology, shown_wire}
use Rattle.cts_model.proofs.SkewLemmas.{least_for_schedule, length-sinks_of, offsets_are_skews, sink_at}

module _ (problem : Problem) (report : Report) (size : IsOfSize problem.circuit report)
    (bounds : IsWithinBounds problem.tech report) where
  abbrev sinks : List Sink
  sinks = sinks_in problem report

  -- there is a place for each arrival
  same : length problem.places.registers ≡ length report.schedule.at
  same = problem.valid.registers ∙ sym size.arrivals

  -- and a sink for each register
  pub sinks_count : length sinks ≡ length report.schedule.at
  sinks_count = length-sinks_of report.period problem.tech problem.places.registers
      report.schedule.at same

  -- one more than merges
  pub merges_count : length sinks ≡ length report.topology.merges + 1
  merges_count = sinks_count ∙ size.arrivals ∙ sym size.merges

  -- and an edge for each node but the source
  pub edges_count : length report.tree.length + 1 ≡ 2 * length sinks
  edges_count = omega (arith, size.lengths, size.arrivals, sinks_count)

  -- a sink's reach is its offset
  level : (register : ℕ)
      → (register < length report.schedule.at) ⊎ (length report.schedule.at ≤ register)
      → IfSome (slice_get sinks register)
      (λ sink. number_at report.tree.reach register ≡ sink.offset)
  level register (inl within) = subst (λ found. IfSome found
      (λ sink. number_at report.tree.reach register ≡ sink.offset))
      (sym (sink_at report.period problem.tech problem.places.registers report.schedule.at origin
      register same within)) (bounds.tree.sinks register within)
  level register (inr past) = subst (λ found. IfSome found
      (λ sink. number_at report.tree.reach register ≡ sink.offset))
      (sym (slice_get_past sinks register (omega (arith, sinks_count)))) tt

  pub sinks_level : (register : ℕ) → IfSome (slice_get sinks register)
      (λ sink. number_at report.tree.reach register ≡ sink.offset)
  sinks_level register = level register (cases_lt register (length report.schedule.at))

  -- so all that it says is the least is so
  pub shown_is_least : IsShown problem report → ShowsLeast problem report
  shown_is_least shown = record {
    period = shown_period problem.circuit problem.tech report shown.timing;
    meets = shown_meets problem.circuit problem.tech report shown.timing;
    topology = shown_topology report merges_count edges_count shown.tree;
    embedding = shown_embedding report merges_count edges_count shown.tree;
    realises = offsets_are_skews 1 report.period problem.tech problem.places.registers
        report.schedule report.topology.merges (embedding_of report.tree) same
        (shown_offsets report merges_count edges_count shown.tree sinks_level);
    wire = least_for_schedule report.period problem.tech problem.places.registers report.schedule
        report.topology.merges (source_in problem report) report.total same
        (shown_wire report merges_count edges_count shown.tree sinks_level);
    schedule = λ second. shown_schedule problem.circuit problem.tech report shown.timing
        size.arrivals bounds.timing.den (shown.least second);
  }
