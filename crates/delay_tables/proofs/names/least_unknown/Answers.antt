use Rattle.delay_tables.proofs.Vocabulary.{◌≡◌, [], ◌∷◌, ◌∙◌, map, codes, ap, IfOk-weaker, fold, flat_map, table_view, top_sections, gate_section, gate_kinds, texts}
use Rattle.cts_model.specs.table.TableFlaws as flaws
use Rattle.delay_tables.proofs.UnknownNames.{least_of_all}
use Rattle.delay_tables.proofs.names.least_unknown.Goals as goal

pub returns : goal.returns
unfolding top_sections
returns c =
    let document = table_view c.args.document.now in
    let at_top = c.in_ok-least_at_top.least_at_top in
    let known = ap texts c.as_slice.ensures.value ∙ c.in_ok-gates.ensures in
    let gate = c.in_ok-least_gate.ensures
    ∙ ap (λ names.
    fold flaws.lesser_name at_top (flaws.unknown_at (codes "gate" ∷ []) names document)) known in
    IfOk-weaker c.with_gates.result
    (λ least. least ≡ fold flaws.lesser_name c.in_ok-least_top_key.least_top_key
    (flat_map (flaws.unknown_in_section document) (map gate_section gate_kinds)))
    (λ least. least ≡ flaws.least_name (flaws.unknown_names document))
    (λ all all_is.
    least_of_all document at_top c.in_ok-least_gate.least_gate c.in_ok-least_top_key.least_top_key
    all c.in_ok-least_at_top.ensures gate c.in_ok-least_top_key.ensures all_is)
    c.with_gates.ensures
