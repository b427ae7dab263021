use Rattle.command_line.proofs.Vocabulary.{string_bytes, sym, refl, is_file_name}
use Rattle.command_line.proofs.PlainWordTests.{first_word, no_words}
use Rattle.command_line.proofs.plain_words.+are_file_names.Goals as goal

pub returns-in_default : goal.returns-in_default
returns-in_default t c =
    sym (no_words string_bytes c.args.words.now is_file_name c.in_default.len_below)

pub returns-then-is_file_name : goal.returns-then-is_file_name
returns-then-is_file_name t c =
    rw (
      first_word string_bytes c.args.words.now c.word-item.result c.in-len1-up.len_at_least
          c.word-item.is,
      ← c.as_str.ensures.value,
      ← c.is_file_name.ensures,
      c.if-is_file_name.true,
    ) c.are_file_names.ensures

pub returns-else-is_file_name : goal.returns-else-is_file_name
returns-else-is_file_name t c =
    rw (
      first_word string_bytes c.args.words.now c.word-item.result c.in-len1-up.len_at_least
          c.word-item.is,
      ← c.as_str.ensures.value,
      ← c.is_file_name.ensures,
      c.if-is_file_name.false,
    ) refl
