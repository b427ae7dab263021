use Rattle.std.proofs.Common.{string_bytes, sym, refl, ◌∙◌}
use Rattle.command_line.proofs.PlainWordTests.{are_options-few, are_options-more}
use Rattle.command_line.proofs.plain_words.+are_options.Goals as goal

pub returns-in_default : goal.returns-in_default
returns-in_default t c =
    c.is_empty.ensures ∙ sym (are_options-few string_bytes c.args.choices.now c.args.words.now
    c.in_default.len_below)

pub returns-then-is_option : goal.returns-then-is_option
returns-then-is_option t c =
    rw (
      are_options-more string_bytes c.args.choices.now c.args.words.now c.option-item.result
          c.value-item.result c.in-len2-up.len_at_least c.option-item.is c.value-item.is,
      ← c.as_str.ensures.value,
      ← c.as_str-in-len2-up.ensures.value,
      ← c.is_option.ensures,
      c.if-is_option.true,
    ) c.are_options.ensures

pub returns-else-is_option : goal.returns-else-is_option
returns-else-is_option t c =
    rw (
      are_options-more string_bytes c.args.choices.now c.args.words.now c.option-item.result
          c.value-item.result c.in-len2-up.len_at_least c.option-item.is c.value-item.is,
      ← c.as_str.ensures.value,
      ← c.as_str-in-len2-up.ensures.value,
      ← c.is_option.ensures,
      c.if-is_option.false,
    ) refl
