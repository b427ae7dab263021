use Rattle.bench_reader.proofs.TokenLemmas.{tokens_of-after_blanks, begins-after_blanks}
use Rattle.bench_reader.proofs.token.after_blanks.Goals as goal

pub returns-clause-tokens : goal.returns-clause-tokens
returns-clause-tokens c = rw (c.split_at.ensures.back, c.blank_count.ensures.count)
    (tokens_of-after_blanks c.args.line.now)

pub returns-clause-begins : goal.returns-clause-begins
returns-clause-begins c =
    rw (c.split_at.ensures.back, c.blank_count.ensures.count) (begins-after_blanks c.args.line.now)
