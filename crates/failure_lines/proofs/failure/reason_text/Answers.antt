use Rattle.std.proofs.Common.{Bor, List, ℕ, [], map, get_or, sym, ap, ◌∙◌}
use Rattle.std.proofs.lemmas.List.{get_or-map}
use Rattle.failure_lines.proofs.failure.reason_text.Goals as goal

pub returns-in-Some : goal.returns-in-Some
returns-in-Some c =
    let read : Bor (List ℕ) → List ℕ = λ text. text.now in
    let found = c.in-Some.ensures.lookup.3 in
    ap read (found.1 c.in-Some.text.now)
    ∙ sym (get_or-map read c.as_slice.result.now c.args.number c.in-Some.text.now [] found.0)
    ∙ ap (λ texts. get_or (map read texts) c.args.number []) c.as_slice.ensures
