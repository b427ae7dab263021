mod Vocabulary
mod Tallies
mod GroupLemmas
pub mod ReadLemmas
mod IdleGates
mod Releases
mod Unmet
mod SortSteps
mod FirstWaiting
mod TopologicalOrders
mod Distinct
pub mod Rings
mod WaitingInputs
mod Walks
