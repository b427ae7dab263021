-- The times and the tree of a problem make its report.
use Rattle.cts_engine.proofs.Vocabulary.{◌≡◌, ◌+◌, List, length, refl, sym, subst, ◌∙◌, arith, All, slice_get, Constraint, Problem, Report, Wire, embedding_of, grid_of, HasTimingBounds, HasTreeBounds, IsOfSize, ShowsAmong, root_of, source_of, least_for_schedule, length-sinks_of, offsets_are_skews, realised_meets, reaches_realise, reach_in, IsClockTree, AreTimes, HasLeastPeriod, sinks_in, source_in, IsReportWith}
use Rattle.std.specs.Prelude.{Some}
use Rattle.cts_engine.specs.Types.{Second}
use Rattle.cts_model.specs.Vocabulary.{RealisesSchedule}
use Rattle.cts_engine.specs.declared.clock_tree.ClockTree.{ClockTree}
use Rattle.cts_engine.specs.declared.times.Times.{Times}
use Rattle.cts_engine.proofs.CycleLengths.{few_registers}
use Rattle.cts_engine.proofs.DelayLemmas.{slacks_small}
use Rattle.cts_engine.proofs.TimingBounds.{arrivals_small, cycle_among, cycle_small, leads_among, leads_small, paths_plain}
use Rattle.cts_engine.proofs.TreeBounds.{are_shown, lengths_small, merge_shows, merges_small, places_small, shows_among, sink_reaches, source_begins, source_shows}

-- the times and the tree of a report
abbrev pub times_in : Report → Times
times_in report = record {
  paths = report.paths;
  schedule = report.schedule;
  slacks = report.slacks;
  leads = report.leads;
}

abbrev pub tree_in : Report → ClockTree
tree_in report = record {
  tree = report.tree;
  shows = report.shows;
  wires = report.wires;
  total = report.total;
}

module _ (problem : Problem) (report : Report) {constraints : List Constraint}
    (least : HasLeastPeriod problem.circuit problem.tech constraints report.period report.shown)
    (times : AreTimes problem.circuit problem.tech report.period report.shown (times_in report))
    (made : IsClockTree (sinks_in problem report) report.topology.merges (source_in problem report)
    (tree_in report)) where
  -- there is a place for each arrival
  same : length problem.places.registers ≡ length report.schedule.at
  same = problem.valid.registers ∙ sym times.schedule.registers

  -- and a sink for each register
  count : length (sinks_in problem report) ≡ length problem.circuit.registers
  count = search (arith, length-sinks_of, same)

  merges_count : length report.topology.merges + 1 ≡ length problem.circuit.registers
  merges_count = omega (arith, made.tree.topology.all, count)

  -- the second version
  of_size : report.version ≡ Second → IsOfSize problem.circuit report
  of_size version =
      let plain = paths_plain problem.circuit problem.tech report.shown report.paths
      times.paths in
      record {
        arrivals = times.schedule.registers;
        slacks = times.slacks.registers;
        merges = merges_count;
        shows = omega (arith, made.tree.placed.shown.all, merges_count);
        reaches = omega (arith, made.lists.reaches, count);
        places = omega (arith, made.lists.places, count);
        lengths = omega (arith, made.lists.lengths, count);
        wires = omega (arith, made.wires, count);
        paths = rw version plain.all;
        leads = rw version times.all_leads;
        period_show = cycle_among least.delays report.period report.shown least.is_shown;
        each_show = subst (λ n. All (ShowsAmong n) report.shows) count
            (shows_among made.tree.placed.shown);
        each_lead = leads_among least.delays report.period report.schedule.at report.leads
            times.schedule.registers times.all_leads times.leads times.low_leads;
        each_path = plain.each;
      }

  timing_bounds : HasTimingBounds report
  timing_bounds = record {
    period = least.range;
    den = times.schedule.den;
    cycle = cycle_small least.delays report.period report.shown least.is_shown;
    arrivals = arrivals_small report.schedule.at times.arrivals;
    slacks = slacks_small least.delays report.schedule.at least.range times.arrivals
        report.schedule report.slacks refl times.slacks;
    paths = (paths_plain problem.circuit problem.tech report.shown report.paths
        times.paths).short;
    leads = leads_small least.delays report.period report.schedule.at report.leads
        times.schedule.registers times.all_leads times.leads times.low_leads;
  }

  tree_bounds : report.grid ≡ grid_of report.period problem.tech
      → HasTreeBounds problem.tech report
  tree_bounds grid =
      let few = few_registers problem.circuit in
      let arrivals = sym (times.schedule.registers) in
      record {
        grid = grid;
        merges = merges_small made.tree.topology (omega (arith, few, count));
        reaches = made.numbers.reaches;
        places = places_small report.tree made.numbers;
        lengths = lengths_small report.tree made.numbers;
        wires = made.small_wires;
        total = made.small_total;
        merge_shows = merge_shows made.tree.placed.shown;
        source_show = source_shows made.tree.placed.shown;
        sinks = sink_reaches report.period problem.tech problem.places.registers
            report.schedule.at
            (reach_in report.tree) same made.tree.placed.shown.of_sinks;
        source = subst (λ n. (wire : Wire)
            → slice_get report.wires (root_of n) ≡ Some wire
            → slice_get report.tree.place (source_of n) ≡ slice_get wire.corners 0)
            (count ∙ arrivals)
            (source_begins (length (sinks_in problem report)) report.topology.merges report.tree
            report.wires (omega (arith, count, problem.circuit.valid.some_register)) made.lists
            made.tree.drawn made.small_wires);
      }

  -- the tree realises the schedule
  realises : RealisesSchedule 1 report.period problem.tech report.topology.merges report.schedule
      (embedding_of report.tree)
  realises = search (arith, offsets_are_skews, same, reaches_realise, are_shown)

  -- so it is the problem's report with its topology
  pub is_report : report.version ≡ Second → report.grid ≡ grid_of report.period problem.tech
      → IsReportWith problem report.topology report
  is_report version grid = record {
    version = version;
    size = of_size version;
    bounds = record { timing = timing_bounds; tree = tree_bounds grid };
    is = record {
      least_period = least.least;
      least_schedule = times.schedule;
      topology = made.tree.topology;
      embedded = made.tree.placed.embedded;
      realises = realises;
      meets = realised_meets problem.circuit problem.tech report.period report.topology.merges
          report.schedule (embedding_of report.tree) times.schedule.registers
          times.schedule.least.meets realises;
      least_wire = least_for_schedule report.period problem.tech problem.places.registers
          report.schedule report.topology.merges (source_in problem report) report.total same
          made.tree.least;
      drawn = made.tree.drawn.drawn;
      total = made.tree.total_is;
    };
    shows = record {
      shown = least.is_shown;
      paths = times.paths;
      leads = times.leads;
      slacks = times.slacks;
      placed = made.tree.placed;
      points = made.tree.drawn.points;
    };
    least = made.tree.least;
    given = refl;
  }
