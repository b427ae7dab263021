-- The lines that tell the parts of a report, and what the rows among them tell, value by value.
use Rattle.std.specs.Prelude.{List, [], codes, length, map, ℕ, ℤ, ◌*◌, ◌++◌, ◌+◌, ◌-◌, ◌∷◌}
use Rattle.report_text.specs.Common.{quotient_text, Circuit, Point, lead_line, period_show_lines, version_line, Words, count_line, period_line, register_line, Scale, Parts, Timed}
use Rattle.cts_model.specs.declared.tree.Show.{Show}
use Rattle.report_text.specs.Values.{merged_line, placed_line, sourced_line}

-- the lines of rows; the first has this number
abbrev pub lines_of : {X : Type 0} (line : ℕ → X → Words) (first : ℕ) → List X → List Words
lines_of line first [] = []
lines_of line first (row ∷ rows) = line first row ∷ lines_of line (first + 1) rows

-- what the rows tell, value by value
abbrev pub reaches_in : Parts → List ℤ
reaches_in parts = map (λ row. row.reach) parts.body.merged

abbrev pub shows_in : Parts → List Show
shows_in parts = map (λ row. row.show) parts.body.merged

abbrev pub places_in : Parts → List Point
places_in parts = map (λ row. row.place) parts.body.placed

-- the line of a register
abbrev pub timed_line : Circuit → (den : ℤ) → (register : ℕ) → Timed → Words
timed_line circuit den register timed =
    register_line circuit den register timed.arrival timed.slack

-- the lines of the sections after what shows the period
abbrev pub lines_after : Circuit → Scale → Parts → List Words
lines_after circuit scale parts = count_line (codes "registers") (length circuit.registers)
    ∷ lines_of (timed_line circuit scale.den) 0 parts.body.timings
    ++ map (lead_line circuit) parts.body.leads
    ++ count_line (codes "merges") (length circuit.registers - 1)
    ∷ lines_of (merged_line circuit scale.grid) (length circuit.registers) parts.body.merged
    ++ sourced_line circuit scale.grid parts.body.source
    ∷ count_line (codes "nodes") (2 * length circuit.registers - 1)
    ∷ lines_of (placed_line scale.grid) 0 parts.body.placed
    ++ (codes "wire" ∷ quotient_text parts.body.total.length scale.grid ∷ []) ∷ []

-- the lines of all sections
abbrev pub denoted_lines : Circuit → Scale → Parts → List Words
denoted_lines circuit scale parts = version_line parts.heading.version
    ∷ period_line parts.heading.period
    ∷ period_show_lines parts.heading.version circuit parts.shown.shown parts.shown.paths
    ++ lines_after circuit scale parts
