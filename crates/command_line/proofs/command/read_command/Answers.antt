use Rattle.std.proofs.Common.{map, string_bytes, refl}
use Rattle.command_line.proofs.PlainCommands.{one_command, some_command}
use Rattle.command_line.proofs.command.read_command.Goals as goal
use Rattle.command_line.proofs.command.read_command.Goals.{in-Ok, in-Err}

pub returns-in_default-clause-usage : goal.returns-in_default-clause-usage
returns-in_default-clause-usage c is command means = c.in_default.ensures.none refl command means

pub returns-in_default-clause-read : goal.returns-in_default-clause-read
returns-in_default-clause-read c command means =
    absurd (c.in_default.ensures.none refl command means)

pub returns-clause-same : goal.returns-clause-same
returns-clause-same c command means =
    elim c.match-parsed.branch [
      | in-Ok w ↦ rw w.result-is (one_command
          (map string_bytes c.args.words.now) command w.in-Ok.command means w.in-Ok.ensures.ok)
      | in-Err w ↦ rw w.result-is tt
    ]

pub returns-clause-memory : goal.returns-clause-memory
returns-clause-memory c none = some_command (map string_bytes c.args.words.now) c.in-Some.form
    c.args.words.ref_ptr c.in-Some.tables c.in-Some.ensures.some
