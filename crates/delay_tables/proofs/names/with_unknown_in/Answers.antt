use Rattle.delay_tables.proofs.Vocabulary.{ℕ, List, ◌∷◌, [], ◌∙◌, map, string_bytes, sym, ap, String, Global, fold, texts}
use Rattle.cts_model.specs.table.TableFlaws as flaws
use Rattle.delay_tables.proofs.UnknownNames.{names_of_keys, least_next}
use Rattle.delay_tables.proofs.names.with_unknown_in.Goals as goal

pub loop-name-preserved : goal.loop-name-preserved
loop-name-preserved c =
    let next = c.in_ok-least.ensures
    ∙ ap (λ name. fold flaws.lesser_name c.loop-name.least
    (flaws.unknown_of (texts c.args.way.now) (texts c.args.known.now) (name ∷ [])))
    c.as_str.ensures.value in
    least_next c.loop-name.least c.in_ok-least.least (texts c.args.way.now) (texts c.args.known.now)
    (string_bytes c.in-Some.name.now) (map string_bytes c.next.new.self)
    (map string_bytes c.loop-name.name-iterator) _ next
    (ap (map string_bytes) c.in-Some.ensures.steps) c.loop-name.invariant

pub returns : goal.returns
returns c =
    let unknown = λ (names : List (List ℕ)). fold flaws.lesser_name c.args.least
    (flaws.unknown_of (texts c.args.way.now) (texts c.args.known.now) names) in
    let over = λ (names : List (String Global)). fold flaws.lesser_name c.loop-name.least
    (flaws.unknown_of (texts c.args.way.now) (texts c.args.known.now) (map string_bytes names)) in
    sym (ap over c.in-None.ensures.steps.0)
    ∙ (c.loop-name.invariant
    ∙ (ap (λ names. unknown (map string_bytes names))
    (c.into_iter-name-iterator.ensures.into_iter_gives ∙ c.keys-name-items.ensures.rest)
    ∙ ap unknown (sym (names_of_keys c.args.table.now.entries))))
