use Rattle.std.proofs.Common.{string_bytes, sym, refl}
use Rattle.command_line.proofs.PlainWordTests.{has_option-few, has_option-more}
use Rattle.command_line.proofs.plain_words.+has_option.Goals as goal

pub returns-in_default : goal.returns-in_default
returns-in_default t c = sym (has_option-few string_bytes c.args.option.now c.args.words.now
    c.in_default.len_below)

pub returns-then-eq : goal.returns-then-eq
returns-then-eq t c =
    rw (
      has_option-more string_bytes c.args.option.now c.args.words.now c.word-item.result
          c.in-len2-up.len_at_least c.word-item.is,
      ← c.as_str.ensures.value,
      ← c.eq.ensures,
      c.if-eq.true,
    ) refl

pub returns-else-eq : goal.returns-else-eq
returns-else-eq t c =
    rw (
      has_option-more string_bytes c.args.option.now c.args.words.now c.word-item.result
          c.in-len2-up.len_at_least c.word-item.is,
      ← c.as_str.ensures.value,
      ← c.eq.ensures,
      c.if-eq.false,
    ) c.has_option.ensures
