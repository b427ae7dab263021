use Rattle.delay_tables.proofs.Vocabulary.{◌∙◌, ap, sym, map, ◌+◌, drop, arith, fold, flat_map, table_view}
use Rattle.cts_model.specs.table.TableFlaws as flaws
use Rattle.cts_model.specs.table.TableKeys as tables
use Rattle.delay_tables.proofs.UnknownNames.{least_more}
use Rattle.delay_tables.proofs.names.with_gates.Goals as goal

pub loop-kind-preserved : goal.loop-kind-preserved
loop-kind-preserved c =
    let unknown = flaws.unknown_in_section (table_view c.args.document.now) in
    let more = least_more tables.gate_section unknown c.loop-kind.least c.args.kinds.now
    c.loop-kind.kind-index _ (omega arith) in
    ap (λ least. fold flaws.lesser_name least
    (flat_map unknown
    (map tables.gate_section (drop (c.loop-kind.kind-index + 1) c.args.kinds.now))))
    c.in_ok-least.ensures
    ∙ (sym more ∙ c.loop-kind.invariant)
