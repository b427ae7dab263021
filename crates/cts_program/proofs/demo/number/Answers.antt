use Rattle.std.proofs.Common.{sym, ◌∙◌}
use Rattle.command_line.proofs.NumberWords.{number_parsed}
use Rattle.cts_program.proofs.demo.number.Goals as goal

pub unreachable-requires : goal.unreachable-requires
unreachable-requires c =
    let (least, greatest, within) = c.requires in
    cc (sym c.in-Err.is
    ∙ number_parsed least greatest c.args.digits.now within c.parse.result c.parse.ensures.value.0)
