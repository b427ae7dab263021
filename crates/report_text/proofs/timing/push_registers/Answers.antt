use Rattle.std.proofs.lemmas.Grind.{common_steps}
use Rattle.report_text.proofs.Vocabulary.{◌≡◌, None, arith, slice_index_or, register_line_at}
use Rattle.report_text.proofs.LineLemmas.{more_lines}
use Rattle.report_text.proofs.timing.push_registers.Goals as goal

pub loop-register-preserved : goal.loop-register-preserved
loop-register-preserved c =
    let report = c.args.printed.now.report.now in
    let slack : c.index-as_slice-register.result ≡ slice_index_or report.slacks
    c.loop-register.register (record { setup = None; hold = None }) = grind (arith, common_steps) in
    more_lines (register_line_at c.args.printed.now.circuit.now report) _ _ _ _
    c.loop-register.invariant (rw slack at c.in_ok-push_register.ensures)
