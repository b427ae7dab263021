-- The parts of a report within its bounds: the report is put together from them, and each is what a
-- line tells.
use Rattle.report_text.proofs.Vocabulary.{◌≡◌, ◌<◌, ◌≤◌, ◌+◌, ◌-◌, ◌*◌, ℕ, pos, List, [], ◌∷◌, ◌++◌, All, None, map, take, drop, length, get_or, refl, sym, ap, ap₂, ◌∙◌, subst, append_assoc, arith, range_with_len, get_or-drop, get_or-take, length-drop, length-take, length-take-le, take-append-drop, take_all, take_more, fill_by_all, get_or-map-range_with_len, length-map-range_with_len, slice_get-get_or, unwrap_or-slice_get, Circuit, Report, Tech, Root, IsMergeShow, IsOfSize, IsSourceShow, IsWithinBounds, lead_line, no_wire, number_at, origin, report_lines, arrival_of, Scale, Parts, Timed, MergeLine, NodeLine, begin_of, denoted_lines, reaches_in, report_denoted, sink_reach, timed_line, scale_in, DenotesLead, SaysMerge, SaysNode, SaysSource, merged_line, placed_line, sourced_line, DenotesTimed}
use Rattle.std.proofs.lemmas.Simd.{map-map}
use Rattle.report_text.proofs.AssemblyLemmas.{lines_denoted, ArePrintable, IsTold, count_shown}

-- ---- values at places

-- those of so many places, one after the other
told : {X Y : Type 0} (f : X → Y) (row_at : ℕ → X) (ys : List Y) (count : ℕ) (d : Y)
    → length ys ≡ count → ((k : ℕ) → k < count → get_or ys k d ≡ f (row_at k))
    → map f (map row_at (range_with_len 0 count)) ≡ ys
told f row_at ys count d long each = map-map f row_at (range_with_len 0 count)
    ∙ sym (fill_by_all (λ k. f (row_at k)) ys count d long each)

-- those of the first places
told_first : {X Y : Type 0} (f : X → Y) (row_at : ℕ → X) (ys : List Y) (count : ℕ) (d : Y)
    → count ≤ length ys → ((k : ℕ) → k < count → get_or ys k d ≡ f (row_at k))
    → map f (map row_at (range_with_len 0 count)) ≡ take count ys
told_first f row_at ys count d less each =
    told f row_at (take count ys) count d (length-take-le count ys less)
    (λ k within. get_or-take count ys k d within ∙ each k within)

-- all but the last, and the last
with_last : {Y : Type 0} (ys : List Y) (count : ℕ) (d : Y) → length ys ≡ count + 1
    → take count ys ++ get_or ys count d ∷ [] ≡ ys
with_last ys count d long = search (arith, take_more, take_all)

-- what is so at each place
all_below : {X : Type 0} (P : X → Type 0) (row_at : ℕ → X) (count : ℕ)
    → ((k : ℕ) → k < count → P (row_at k)) → All P (map row_at (range_with_len 0 count))
all_below P row_at count each k d within =
    search (arith, length-map-range_with_len, get_or-map-range_with_len)

-- ---- the parts

-- the rows of a register, a merge and a node
abbrev timed_at : Report → ℕ → Timed
timed_at report place = record {
  arrival = arrival_of report.schedule.at place;
  slack = get_or report.slacks place (record { setup = None; hold = None });
}

abbrev merged_at : Report → (registers : ℕ) → ℕ → MergeLine
merged_at report registers place = record {
  merge = get_or report.topology.merges place (record { first = 0; second = 0 });
  reach = number_at report.tree.reach (registers + place);
  show = get_or report.shows place Root;
}

abbrev node_at : Report → ℕ → NodeLine
node_at report node = record {
  place = get_or report.tree.place node origin;
  length = number_at report.tree.length node;
  wire = get_or report.wires node no_wire;
}

abbrev pub parts_of : (registers : ℕ) → Report → Parts
parts_of registers report = record {
  heading = record {
    version = report.version;
    period = report.period;
    count = count_shown report.shown;
  };
  shown = record { shown = report.shown; paths = report.paths };
  body = record {
    timings = map (timed_at report) (range_with_len 0 registers);
    leads = report.leads;
    merged = map (merged_at report registers) (range_with_len 0 (registers - 1));
    source = record {
      reach = number_at report.tree.reach (2 * registers - 1);
      show = get_or report.shows (registers - 1) Root;
    };
    placed = map (node_at report) (range_with_len 0 (2 * registers - 1));
    total = record { length = report.total };
  };
}

module _ (circuit : Circuit) (tech : Tech) (report : Report) (size : IsOfSize circuit report)
    (bounds : IsWithinBounds tech report) where
  abbrev count : ℕ
  count = length circuit.registers

  abbrev parts : Parts
  parts = parts_of count report

  abbrev scale : Scale
  scale = scale_in tech report.period

  some : 0 < count
  some = circuit.valid.some_register

  -- ---- the report is put together from them

  wires_same : (report_denoted tech parts).wires ≡ report.wires
  wires_same = told _ _ _ _ _ (omega (arith, size.wires)) (λ k within. refl)

  -- the sinks' reaches, those of the merges and that of the source
  reach_same : (report_denoted tech parts).tree.reach ≡ report.tree.reach
  reach_same =
      let at = arrival_of report.schedule.at in
      let rest = drop count report.tree.reach in
      let sinks = ap (map (sink_reach tech))
      (map-map (λ (row : Timed). row.arrival) (timed_at report)
      (range_with_len 0 count)) ∙ told_first (sink_reach tech) at report.tree.reach count (pos 0)
      (omega (arith, size.reaches))
      (λ k within. bounds.tree.sinks k (omega (arith, within, size.arrivals))) in
      let long : length rest ≡ count = omega (arith, length-drop count report.tree.reach) in
      let merges = told_first _ _ rest _ _ (omega (arith, long)) (λ k within. get_or-drop count
      report.tree.reach k (pos 0)) in
      let last : 2 * count - 1 ≡ count + (count - 1) = omega (arith, some) in
      let source = ap (number_at report.tree.reach) last
      ∙ sym (get_or-drop count report.tree.reach (count - 1) (pos 0)) in
      append_assoc (map (sink_reach tech) (report_denoted tech parts).schedule.at)
      (reaches_in parts)
      (number_at report.tree.reach (2 * count - 1) ∷ []) ∙ ap₂ (λ xs ys. xs ++ ys) sinks
      (ap₂ (λ xs x. xs ++ x ∷ []) merges source ∙ with_last rest _ (pos 0)
      (omega (arith, long, some))) ∙ take-append-drop count report.tree.reach

  -- the source stands where the root's wire begins
  begin_same : begin_of (report_denoted tech parts).wires ≡ get_or report.tree.place (2 * count - 1)
      origin
  begin_same = search (arith, wires_same, unwrap_or-slice_get, slice_get-get_or, some)

  pub report_same : report_denoted tech parts ≡ report
  report_same =
      let arrivals = told _ _ _ _ _ size.arrivals (λ k within. refl) in
      let slacks = told _ _ _ _ _ size.slacks (λ k within. refl) in
      let merges = told _ _ _ _ _ (omega (arith, size.merges)) (λ k within. refl) in
      let shows = ap (λ xs. xs ++ get_or report.shows (count - 1) Root ∷ []) (told_first _ _ _ _
      Root (omega (arith, size.shows)) (λ k within. refl)) ∙ with_last _ _ Root
      (omega (arith, size.shows, some)) in
      let places = ap₂ (λ xs x. xs ++ x ∷ []) (told_first _ _ _ _ _ (omega (arith, size.places))
      (λ k within. refl)) begin_same ∙ with_last _ _ origin (omega (arith, size.places, some)) in
      let lengths = told _ _ _ _ _ (omega (arith, size.lengths)) (λ k within. refl) in
      λ i. record {
        version = report.version;
        period = report.period;
        shown = report.shown;
        paths = report.paths;
        schedule = record { den = sym bounds.timing.den i; at = arrivals i };
        slacks = slacks i;
        leads = report.leads;
        grid = sym bounds.tree.grid i;
        topology = record { merges = merges i };
        tree = record { reach = reach_same i; place = places i; length = lengths i };
        shows = shows i;
        wires = wires_same i;
        total = report.total;
      }

  -- ---- each is what a line tells

  timings_told : All (IsTold (DenotesTimed circuit scale) (timed_line circuit scale.den))
      parts.body.timings
  timings_told = all_below (IsTold (DenotesTimed circuit scale) (timed_line circuit scale.den))
      (timed_at report) count (λ k within number. record {
        line = refl;
        small = bounds.timing.arrivals k (pos 0) (omega (arith, within, size.arrivals));
        slacks = bounds.timing.slacks k _ (omega (arith, within, size.slacks));
      })

  leads_told : All (IsTold (λ number. DenotesLead circuit) (λ number. lead_line circuit))
      report.leads
  leads_told k d within number = search arith

  merges_told : All (IsTold (SaysMerge circuit scale.grid) (merged_line circuit scale.grid))
      parts.body.merged
  merges_told = all_below (IsTold (SaysMerge circuit scale.grid) (merged_line circuit scale.grid))
      (merged_at report count) (count - 1) (λ k less number.
      let merges = length report.topology.merges in
      let within : k < merges = omega (arith, less, size.merges) in
      record {
        words_are = refl;
        merge = bounds.tree.merges k _ within;
        reach = bounds.tree.reaches (count + k) (pos 0) (omega (arith, less, size.reaches));
        show = subst IsMergeShow (get_or-take merges report.shows k Root within)
            (bounds.tree.merge_shows k Root (omega (arith, length-take merges report.shows)));
        among = size.each_show k Root (omega (arith, less, size.shows));
      })

  source_told : SaysSource circuit scale.grid (sourced_line circuit scale.grid
      parts.body.source) parts.body.source
  source_told =
      let merges = length report.topology.merges in
      let last : merges + 0 ≡ count - 1 = omega (arith, size.merges) in
      record {
        words_are = refl;
        reach = bounds.tree.reaches (2 * count - 1) (pos 0) (omega (arith, size.reaches, some));
        show = subst IsSourceShow (get_or-drop merges report.shows 0 Root
            ∙ ap (λ k. get_or report.shows k Root) last)
            (bounds.tree.source_show 0 Root (omega (arith, length-drop merges report.shows)));
        among = size.each_show (count - 1) Root (omega (arith, size.shows, some));
      }

  nodes_told : All (IsTold (SaysNode scale.grid) (placed_line scale.grid)) parts.body.placed
  nodes_told = all_below (IsTold (SaysNode scale.grid) (placed_line scale.grid)) (node_at report)
      (2 * count - 1) (λ k within number. record {
        words_are = refl;
        place = bounds.tree.places k origin (omega (arith, within, size.places));
        edge = bounds.tree.lengths k (pos 0) (omega (arith, within, size.lengths));
        wire = bounds.tree.wires k no_wire (omega (arith, within, size.wires));
      })

  pub report_printable : ArePrintable circuit tech parts
  report_printable = search (
    bounds.timing,
    bounds.tree,
    timings_told,
    leads_told,
    merges_told,
    source_told,
    nodes_told,
    length-map-range_with_len,
  )

  -- so the lines that tell them are those of the report
  pub report_told : denoted_lines circuit scale parts ≡ report_lines circuit report
  report_told = sym (lines_denoted report_printable) ∙ ap (report_lines circuit) report_same
