use Rattle.report_text.proofs.Vocabulary.{rules, arith, subst, sym, Spells}
use Rattle.report_text.proofs.AssemblyLemmas.{parts_spelled, parts_printable}
use Rattle.report_text.proofs.PassedTexts.{fault_or_report}
use Rattle.report_text.proofs.WalkLemmas.{passed_on}
use Rattle.report_text.proofs.WholeTexts.{fault_read, spelled_read}
use Rattle.report_text.proofs.reader.read_report.Goals as goal

pub report_of-requires-clause-period : goal.report_of-requires-clause-period
report_of-requires-clause-period c = c.in_ok-parts.ensures.ok.heading.small

pub report_of-requires-clause-arrivals : goal.report_of-requires-clause-arrivals
report_of-requires-clause-arrivals c place default within =
    ((parts_printable c.in_ok-parts.ensures.ok).timings place default within 0).small

pub returns-clause-ok : goal.returns-clause-ok
returns-clause-ok c =
    subst (Spells c.args.circuit.now c.args.tech.now c.args.bytes.now) (sym c.in_ok-report.ensures)
    (parts_spelled c.in_ok-parts.ensures.ok)

pub returns-in_err-parts-clause-ok : goal.returns-in_err-parts-clause-ok
returns-in_err-parts-clause-ok c = search rules

pub returns-in_err-parts-clause-fault : goal.returns-in_err-parts-clause-fault
returns-in_err-parts-clause-fault c =
    passed_on _ _ _ c.from_residual.ensures.1 c.in_err-parts.ensures.fault

pub returns-in_err-parts-clause-read : goal.returns-in_err-parts-clause-read
returns-in_err-parts-clause-read c =
    search (arith, spelled_read, returns-in_err-parts-clause-ok, returns-in_err-parts-clause-fault)

pub returns-in_err-parts-clause-faulty : goal.returns-in_err-parts-clause-faulty
returns-in_err-parts-clause-faulty c =
    search (arith, fault_read, returns-in_err-parts-clause-ok, returns-in_err-parts-clause-fault)

pub returns-clause-read : goal.returns-clause-read
returns-clause-read c =
    search (arith, spelled_read, returns-clause-ok)

pub returns-clause-faulty : goal.returns-clause-faulty
returns-clause-faulty c =
    search (arith, fault_read, returns-clause-ok)

pub returns-clause-either : goal.returns-clause-either
returns-clause-either c = search (arith, fault_or_report)

pub returns-in_err-parts-clause-either : goal.returns-in_err-parts-clause-either
returns-in_err-parts-clause-either c = search (arith, fault_or_report)

pub returns-in_err-report-clause-either : goal.returns-in_err-report-clause-either
returns-in_err-report-clause-either c = search (arith, fault_or_report)
