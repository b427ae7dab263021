-- What `cts_check` finds of a report, whoever made it: that it shows what it says of the problem,
-- or why it doesn't. Fishburn 1990; Boese and Kahng 1992; Chao and others 1992.
use Rattle.std.specs.Prelude.{◌≡◌, ◌≢◌, ℕ, List, Some}
use Rattle.cts_model.specs.declared.problem.Problem.{Problem}
use Rattle.cts_model.specs.Vocabulary.{Spells, ShowsLeast}
use Rattle.cts_model.specs.declared.report.Report as reports
use Rattle.cert_check.specs.Verdicts.{IsVerdict}
use Rattle.cert_check.specs.declared.verdict.Reason.{Reason}
use Rattle.cert_check.specs.declared.verdict.Subject.{Subject}
use Rattle.cert_check.specs.declared.verdict.Subject.TheVariants.{Whole, Place, Register}
use Rattle.cert_check.specs.Reasons.{reason_numbers}
use Rattle.cert_check.specs.declared.verdict.Verdict.TheVariants as verdicts
use Rattle.cert_check.specs.declared.verdict.Verdict.TheVariants.{Not}
use Rattle.cts_engine.specs.Accepted.{TellAll}
use Rattle.report_text.specs.FaultNumbers.{fault_numbers}
use Rattle.report_text.specs.ReportFaults.{HasFault}
use Rattle.report_text.specs.declared.fault.ReportFault.{ReportFault}
use Rattle.report_text.specs.declared.fault.ReportFault.TheVariants as fault
use Rattle.cts_c.specs.Refusals.{IsShort}
use Rattle.cts_c.specs.declared.finding.Finding.{Finding}
use Rattle.cts_c.specs.declared.judged.Judged.{Judged}
use Rattle.cts_c.specs.declared.judged.Judged.TheVariants.{Shown, TooLong, Faulty, Against}

-- the text spells a report that shows what it says of the problem, and so that is true
pub record IsShownReport (problem : Problem) (text : List ℕ) : Type 0 where
  pub short : IsShort text
  pub report : reports.Report
  pub spelled : Spells problem.circuit problem.tech text report
  pub shown : IsVerdict problem report verdicts.Shown
  pub least : ShowsLeast problem report

-- the text spells a report that doesn't show what it says, for this reason first
pub record HasReason (problem : Problem) (text : List ℕ) (found : Reason) : Type 0 where
  pub short : IsShort text
  pub report : reports.Report
  pub spelled : Spells problem.circuit problem.tech text report
  pub verdict : IsVerdict problem report (Not found)

-- what the text of a report comes to: it is shown, it is too long, it spells no report, or a reason
-- stands against what it spells
abbrev pub IsJudged : Problem → List ℕ → Judged → Type 0
IsJudged problem text Shown = IsShownReport problem text
IsJudged problem text TooLong = IsShort text → ⊥
IsJudged problem text (Faulty found) = IsShort text × (found ≢ fault.NoMemory)
    × HasFault problem.circuit problem.tech text (Some found)
IsJudged problem text (Against found) = HasReason problem text found

-- the status for it
abbrev pub judged_status : Judged → ℕ
judged_status Shown = 0
judged_status _ = 7

-- the number of what a reason is about, and 0 for the whole report
abbrev pub place_in : Subject → ℕ
place_in Whole = 0
place_in (Place number) = number
place_in (Register number) = number

-- the numbers for it
abbrev pub finding_of : Judged → Finding
finding_of Shown = record { kind = 0; number = 0; place = 0 }
finding_of TooLong = record { kind = 1; number = 0; place = 0 }
finding_of (Faulty found) =
    record { kind = 2; number = (fault_numbers found).0; place = (fault_numbers found).1 }
finding_of (Against found) =
    let (number, subject) = reason_numbers found in
    record { kind = 3; number = number; place = place_in subject }

-- three texts tell a problem, and the report comes to this, with the status
pub record IsCheck (bench tech pl text : List ℕ) (status : ℕ) (finding : Finding)
    : Type 0 where
  pub problem : Problem
  pub tell : TellAll bench tech pl problem
  pub judged : Judged
  pub is : IsJudged problem text judged
  pub status_is : status ≡ judged_status judged
  pub finding_is : finding ≡ finding_of judged
