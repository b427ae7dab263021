use Rattle.std.proofs.Common.{sym, ◌∙◌, refl}
use Rattle.bench_reader.proofs.TokenLemmas.{tokens_of-word, begins_with_first}
use Rattle.bench_reader.proofs.token.first_token.Goals as goal

pub returns-then-is_name_byte : goal.returns-then-is_name_byte
returns-then-is_name_byte c =
    let line = c.args.line.now in
    let begins =
    begins_with_first line c.requires.some (sym c.is_name_byte.ensures ∙ c.if-is_name_byte.true) in
    rw (
      tokens_of-word line begins,
      c.split_at.ensures.front,
      c.split_at.ensures.back,
      c.word_len.ensures.count,
    ) refl
