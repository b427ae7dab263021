use Rattle.std.proofs.Common.{◌∙◌, sym}
use Rattle.command_line.proofs.NumberWords.{unread}
use Rattle.command_line.proofs.plain_words.is_number_within.Goals as goal

pub returns-in-Err : goal.returns-in-Err
returns-in-Err c =
    sym (unread c.args.least c.args.greatest c.args.word.now c.in-Err.field-0
    (sym c.are_digits.ensures ∙ c.if-not-are_digits.false) c.if-word-gt4.false
    c.in-Err.ensures.value.0)
