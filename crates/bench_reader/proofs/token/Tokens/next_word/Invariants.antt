use Rattle.bench_reader.proofs.Vocabulary.{◌≡◌, token_words}
use Rattle.bench_reader.proofs.token.Tokens.next_word.Given as goal

abbrev pub invariant-loop-token : goal.invariant-loop-token
invariant-loop-token l =
    (goal.iterator-loop-token).can_next l.self × (goal.iterator-loop-token).is_finite l.self
    × (token_words l.self ≡ token_words l.initial.self)
