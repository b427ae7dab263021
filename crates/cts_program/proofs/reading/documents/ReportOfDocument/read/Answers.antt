use Rattle.std.proofs.lemmas.Result.{err_from_is_err_and}
use Rattle.cts_program.proofs.FileFaults.{refused_report}
use Rattle.cts_program.proofs.reading.documents.ReportOfDocument.read.Goals as goal

pub returns-in_err-read_report-clause-refuses : goal.returns-in_err-read_report-clause-refuses
returns-in_err-read_report-clause-refuses c =
    let p = err_from_is_err_and c.from_residual.result c.from_residual.ensures.1 in
    rw (p.1, p.2) (refused_report c.args.self.problem.now c.args.bytes.now _
    c.in_err-read_report.ensures.fault)
