mod Vocabulary
mod PlaceLemmas
mod OutcomeLemmas
mod WireLemmas
mod DrawLemmas
mod DelayLemmas
mod CycleLengths
mod ArrivalLemmas
mod TimingBounds
mod TreeBounds
mod SinkLemmas
mod ReportLemmas
mod ShownReports
pub mod SessionLemmas
pub mod MarginLemmas
pub mod ProblemLemmas
pub mod HostedLoops
pub mod OneProblem
mod RefusalLemmas
