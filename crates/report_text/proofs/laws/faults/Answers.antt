use Rattle.report_text.proofs.PassedTexts.{fault_or_report, report_spelled}
use Rattle.report_text.proofs.WholeTexts.{no_fault, one_fault}
use Rattle.report_text.proofs.laws.faults.Goals as goal

pub returns-clause-one : goal.returns-clause-one
returns-clause-one c = one_fault

pub returns-clause-none : goal.returns-clause-none
returns-clause-none c = no_fault

pub returns-clause-report : goal.returns-clause-report
returns-clause-report c = report_spelled

pub returns-clause-either : goal.returns-clause-either
returns-clause-either c = fault_or_report
