use Rattle.report_text.proofs.Vocabulary.{◌≡◌, ◌<◌, ◌+◌, Bor, List, ℕ, [], ◌∷◌, map, drop, get_or, length, sym, ap, ◌∙◌, arith, drop_more, get_or-map, length-drop, length-map, LineLeft}
use Rattle.report_text.proofs.scan.Scan.next.Goals as goal

pub returns-in-Some-clause-taken : goal.returns-in-Some-clause-taken
returns-in-Some-clause-taken c =
    let read : Bor (List ℕ) → List ℕ = λ word. word.now in
    let items = c.self.inside.words.now in
    let words : List (List ℕ) = map read items in
    let taken = c.self.inside.taken in
    let are : c.args.self.now.words ≡ drop taken words =
    sym (ap (λ (left : LineLeft). left.words) c.self.view_is) in
    let found = c.in-Some.ensures.lookup.3 in
    let within : taken < length words = omega (arith, found.0, length-map items read) in
    let word : c.in-Some.word.now.now ≡ get_or words taken [] =
    ap read (found.1 c.in-Some.word.now)
    ∙ sym (get_or-map read items taken c.in-Some.word.now [] found.0) in
    record {
      some = λ some. (
        are ∙ drop_more words taken [] within ∙ ap (λ w. w ∷ drop (taken + 1) words) (sym word),
        ap (λ (left : LineLeft). left.flaw) c.self.view_is,
      );
      none = λ none.
          absurd (omega (
            arith,
            ap (λ (ws : List (List ℕ)). length ws) (sym are ∙ none),
            length-drop taken words,
            within,
          ));
    }
