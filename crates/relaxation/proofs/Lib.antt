mod Vocabulary
pub mod SetLemmas
pub mod GainLemmas
pub mod RelaxLemmas
mod ParentLemmas
mod SweepLemmas
pub mod RiseLemmas
mod StepLemmas
mod ClimbLemmas
pub mod Climbs
mod SettleLemmas
mod PrepareLemmas
