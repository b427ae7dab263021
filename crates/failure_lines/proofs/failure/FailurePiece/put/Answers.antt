use Rattle.failure_lines.proofs.failure.FailurePiece.put.Goals as goal

pub returns-in-Pairs : goal.returns-in-Pairs
returns-in-Pairs g c =
    rw c.in-Pairs.is (rw c.as_slice-in-Pairs.ensures at c.put-in-Pairs.ensures)
