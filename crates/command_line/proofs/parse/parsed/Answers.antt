use Rattle.command_line.proofs.Vocabulary.{◌≡◌, ◌∙◌, ap, map, string_bytes, found_of, passed_up, choices_of, has_values}
use Rattle.clap.specs.Words.{kind_of}
use Rattle.clap.specs.declared.error.kind.ErrorKind.TheVariants.{OutOfMemory}
use Rattle.command_line.proofs.PlainCommands.{has_values-plain, means_command}
use Rattle.command_line.proofs.PlainWordTests.{plain_front}
use Rattle.command_line.proofs.CommandParsers.{takes_words, finds_values}
use Rattle.command_line.proofs.parse.parsed.Goals as goal

pub returns-in_err-matches-clause-err : goal.returns-in_err-matches-clause-err
returns-in_err-matches-clause-err c =
    let plain = plain_front string_bytes c.args.words.now c.args.tables.now c.split_at.result.0.now
    c.args.form c.requires c.split_at.ensures.front in
    passed_up c.from_residual-in_err-matches.result c.in_err-matches.field-0.0
    (λ error. kind_of error ≡ OutOfMemory) c.from_residual-in_err-matches.ensures.1
    (c.in_err-matches.ensures.passes (takes_words plain.head c.args.form plain.plain _
    c.in_ok-parser.ensures))

pub command_of-requires-clause-values : goal.command_of-requires-clause-values
command_of-requires-clause-values c =
    let plain = plain_front string_bytes c.args.words.now c.args.tables.now c.split_at.result.0.now
    c.args.form c.requires c.split_at.ensures.front in
    ap (has_values (choices_of c.args.form)) (finds_values plain.head c.args.form plain.plain _
    c.in_ok-parser.ensures (found_of c.in_ok-matches.matches) c.in_ok-matches.ensures.matches)
    ∙ has_values-plain plain.head c.args.form plain.plain

pub returns-clause-ok : goal.returns-clause-ok
returns-clause-ok c =
    let plain = plain_front string_bytes c.args.words.now c.args.tables.now c.split_at.result.0.now
    c.args.form c.requires c.split_at.ensures.front in
    means_command (map string_bytes c.args.words.now) (map string_bytes c.args.tables.now)
    c.args.form plain c.command_of.result c.command_of.ensures.form
    (c.command_of.ensures.values ∙ finds_values plain.head c.args.form plain.plain _
    c.in_ok-parser.ensures (found_of c.in_ok-matches.matches) c.in_ok-matches.ensures.matches)
    c.command_of.ensures.tables
