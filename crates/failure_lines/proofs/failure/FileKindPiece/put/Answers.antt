use Rattle.failure_lines.proofs.failure.FileKindPiece.put.Goals as goal

pub returns-in-Report : goal.returns-in-Report
returns-in-Report g c = rw c.in-Report.is (rw c.as_slice.ensures at c.put.ensures)

pub returns-in-Corner : goal.returns-in-Corner
returns-in-Corner g c = rw c.in-Corner.is c.put_number.ensures
