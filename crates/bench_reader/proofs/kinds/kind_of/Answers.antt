use Rattle.bench_reader.proofs.Vocabulary.{◌≡◌, List, ℕ, Bor, rules, tests, ap, ◌∙◌, find, option_map, str_eq_ignore_ascii_case, Kind}
use Rattle.std.proofs.lemmas.Iterator.{YieldsList-from_slice}
use Rattle.std.proofs.lemmas.Iterator.Search.{find_from_yields_List}
use Rattle.bench_reader.proofs.KindLemmas.{kind_at, kind_at-find}
use Rattle.bench_reader.proofs.kinds.kind_of.Goals as goal

pub returns : goal.returns
returns c =
    let word : List ℕ = c.args.word.now in
    let table : List (Bor (List ℕ) × Kind) = c.iter.result.rest.now in
    let found : option_map (λ x. x.now) c.find.result
    ≡ find (λ row. str_eq_ignore_ascii_case word row.0.now) table =
    find_from_yields_List _ _ _ c.find.result c.find.ensures.ran (YieldsList-from_slice table cc)
    (λ x b q k. search (rules, tests)) in
    let mapped : c.map.result ≡ option_map (λ row. row.1) (option_map (λ x. x.now) c.find.result) =
    search rules in
    mapped ∙ ap (option_map (λ row. row.1)) found ∙ kind_at-find table word
    ∙ ap (λ rows. kind_at rows word) c.iter.ensures.rest
