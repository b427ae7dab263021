pub mod ReportLines
pub mod ReportBounds
pub mod Judgements
pub mod Shown
pub mod SaidReports
pub mod OneProof
