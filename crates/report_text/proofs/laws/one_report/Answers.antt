use Rattle.report_text.proofs.WholeTexts.{one_report}
use Rattle.report_text.proofs.laws.one_report.Goals as goal

pub returns : goal.returns
returns c = one_report
