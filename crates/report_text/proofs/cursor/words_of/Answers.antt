use Rattle.report_text.proofs.Vocabulary.{◌≡◌, IfOk, map, rules, tests, spaced_words}
use Rattle.std.proofs.lemmas.Iterator.Consumers.{map_from_collect}
use Rattle.std.proofs.lemmas.Iterator.Splits.{YieldsList-from_slice_split}
use Rattle.report_text.proofs.cursor.words_of.Goals as goal

pub returns : goal.returns
returns c =
    let are : IfOk c.collect.result
    (λ words. map (λ word. word.now) words.items ≡ spaced_words c.args.line.now) =
    map_from_collect _ c.collect.ensures.ran
    (YieldsList-from_slice_split _ _ c.args.line.now c.split.ensures.rest c.split.ensures.done
    c.split.ensures.closure (λ x r q k. search (rules, tests))) in
    rw c.in_ok-collect.was at are
