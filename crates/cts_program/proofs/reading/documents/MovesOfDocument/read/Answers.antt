use Rattle.cts_program.proofs.Vocabulary.{told_ok, moves_in}
use Rattle.move_session.specs.declared.fault.MovesFault.TheVariants.{NoMemory}
use Rattle.cts_program.proofs.WireTexts.{near_moves}
use Rattle.cts_program.proofs.reading.documents.MovesOfDocument.read.Goals as goal

pub returns-clause-keeps : goal.returns-clause-keeps
returns-clause-keeps c =
    let problem = c.args.self.problem.now in
    near_moves problem c.args.bytes.now c.in_ok-read_moves.field-0
    (told_ok NoMemory (moves_in c.args.bytes.now problem.circuit) _ c.in_ok-read_moves.ensures)
