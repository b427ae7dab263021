mod Vocabulary
mod IntLemmas
mod ProductLemmas
pub mod PlaceLemmas
mod Turns
mod RoundWalk
mod SumLemmas
mod MeasureLemmas
mod RaiseLemmas
mod Steps
mod SearchLemmas
mod RatioLemmas
mod PeriodLemmas
