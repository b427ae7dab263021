-- The parts of a whole report, one after the other, and the report that they tell.
use Rattle.std.specs.Prelude.{All, List, Option, [], drop, length, map, neg_ℤ, slice_index_or, ℕ, ℤ, ◌*◌, ◌++◌, ◌-◌, ◌<◌, ◌∷◌, ◌≡◌, ◌≤◌, codes, unwrap_or, ◌^◌}
use Rattle.report_text.specs.Common.{Fraction, Circuit, Point, Report, Version, Tech, Wire, count_in, HasSmallWeights, ShowsPeriodAmong, cycle_length, no_wire, origin, period_show_lines, version_line, period_line, IsSmallPeriod, grid_of, scheduled_length, Scale, Body, Heading, Parts, Shown, IsBelow}
use Rattle.report_text.specs.LineForms as form
use Rattle.report_text.specs.Forms.{cycle_forms}
use Rattle.report_text.specs.Values.{IsSmallCount, period_shown_line, DenotesLead, DenotesTimed, SaysMerge, SaysNode, SaysSource, wire_line}
use Rattle.report_text.specs.Walks.{Left, Reads, DenotesLine, Counted, HasRows}

-- the first three lines, which are read by any scale
pub record HasHeading (circuit : Circuit) (old new : Left) (heading : Heading) : Type 0 where
  pub lines : (scale : Scale) → Reads circuit scale
      (form.Version ∷ form.Period ∷ form.Show ∷ [])
      (version_line heading.version ∷ period_line heading.period ∷ period_shown_line heading.count
      ∷ [])
      old new
  pub small : IsSmallPeriod heading.period
  pub count : IsSmallCount heading.count

-- the lines after these, as far as they show the period
pub record HasShown (circuit : Circuit) (scale : Scale) (version : Version) (count : Option ℕ)
    (old new : Left) (shown : Shown) : Type 0 where
  pub lines : Reads circuit scale (cycle_forms version (unwrap_or count 0))
      (drop 1 (period_show_lines version circuit shown.shown shown.paths)) old new
  pub first : period_show_lines version circuit shown.shown shown.paths
      ≡ period_shown_line count ∷ drop 1 (period_show_lines version circuit shown.shown shown.paths)
  pub counted : cycle_length shown.shown ≡ unwrap_or count 0
  pub paths : length shown.paths ≡ count_in version (cycle_length shown.shown)
  pub among : ShowsPeriodAmong (length circuit.registers) shown.shown
  pub weights : HasSmallWeights shown.shown
  pub signals : All (All (λ number. number < length circuit.signals)) shown.paths
  pub few : All (λ path. length path ≤ 65536) shown.paths

-- all sections, one after the other
pub record HasBody (circuit : Circuit) (scale : Scale) (version : Version) (registers : ℕ)
    (old new : Left) (body : Body) : Type 0 where
  pub after_registers : Left
  pub after_leads : Left
  pub after_merges : Left
  pub after_source : Left
  pub after_nodes : Left
  pub timings : Counted circuit scale (codes "registers") form.Register (DenotesTimed circuit scale)
      0 registers old after_registers body.timings
  pub leads : HasRows circuit scale (λ number. form.Lead) (λ number. DenotesLead circuit)
      0 (count_in version registers) after_registers after_leads body.leads
  pub merged : Counted circuit scale (codes "merges") form.Merge (SaysMerge circuit scale.grid)
      registers (registers - 1) after_leads after_merges body.merged
  pub source : DenotesLine circuit scale form.Source (SaysSource circuit scale.grid) after_merges
      after_source body.source
  pub placed : Counted circuit scale (codes "nodes") form.Node (SaysNode scale.grid)
      0 (2 * registers - 1) after_source after_nodes body.placed
  pub total : DenotesLine circuit scale form.Total
      (λ words line. (words ≡ wire_line scale.grid line.length) × IsBelow (10 ^ 36) line.length)
      after_nodes new body.total

-- the steps of a report of that period
abbrev pub scale_in : Tech → Fraction → Scale
scale_in tech period = record { den = period.den; grid = grid_of period tech }

-- a whole text
abbrev pub whole : List ℕ → Left
whole text = record { line = 1; text = text }

-- the heading, what shows the period, and all sections after these, up to the end of the text
pub record HasParts (circuit : Circuit) (tech : Tech) (text : List ℕ) (parts : Parts)
    : Type 0 where
  pub after_heading : Left
  pub after_shown : Left
  pub end : Left
  pub heading : HasHeading circuit (whole text) after_heading parts.heading
  pub shown : HasShown circuit (scale_in tech parts.heading.period) parts.heading.version
      parts.heading.count after_heading after_shown parts.shown
  pub body : HasBody circuit (scale_in tech parts.heading.period) parts.heading.version
      (length circuit.registers) after_shown end parts.body
  pub ended : end.text ≡ []

-- a sink's reach is minus its scheduled length
abbrev pub sink_reach : Tech → (arrival : ℤ) → ℤ
sink_reach tech arrival = neg_ℤ (scheduled_length tech arrival)

-- where the last wire begins
abbrev pub begin_of : List Wire → Point
begin_of wires =
    slice_index_or (slice_index_or wires (length wires - 1) no_wire).corners 0 origin

-- the report: the sections with what isn't printed
abbrev pub report_denoted : Tech → Parts → Report
report_denoted tech parts = record {
  version = parts.heading.version;
  period = parts.heading.period;
  shown = parts.shown.shown;
  paths = parts.shown.paths;
  schedule = record {
    den = parts.heading.period.den;
    at = map (λ row. row.arrival) parts.body.timings;
  };
  slacks = map (λ row. row.slack) parts.body.timings;
  leads = parts.body.leads;
  grid = grid_of parts.heading.period tech;
  topology = record { merges = map (λ row. row.merge) parts.body.merged };
  tree = record {
    reach = map (sink_reach tech) (map (λ row. row.arrival) parts.body.timings)
        ++ map (λ row. row.reach) parts.body.merged ++ parts.body.source.reach ∷ [];
    place = map (λ row. row.place) parts.body.placed
        ++ begin_of (map (λ row. row.wire) parts.body.placed) ∷ [];
    length = map (λ row. row.length) parts.body.placed;
  };
  shows = map (λ row. row.show) parts.body.merged ++ parts.body.source.show ∷ [];
  wires = map (λ row. row.wire) parts.body.placed;
  total = parts.body.total.length;
}
