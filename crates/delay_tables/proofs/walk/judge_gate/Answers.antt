use Rattle.delay_tables.proofs.Vocabulary.{subst, [], ◌∷◌, codes, table_view, Judges}
use Rattle.cts_model.specs.table.TableKeys as tables
use Rattle.cts_model.specs.table.TableFlaws as flaws
use Rattle.delay_tables.proofs.walk.judge_gate.Goals as goal

pub returns : goal.returns
returns c =
    subst
    (λ name. Judges c.judge_section.result (flaws.section_flaw (table_view c.args.document.now)
    (record { way = codes "gate" ∷ name ∷ []; keys = tables.gate_keys })))
    c.gate_name.ensures c.judge_section.ensures
