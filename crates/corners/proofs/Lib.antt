mod Vocabulary
mod InclusionLemmas
mod SatisfiedLemmas
mod SmallLemmas
mod SamePairs
mod ParallelLemmas
mod OneWeight
mod CornerPlaces
mod CommonLemmas
pub mod OutcomeLemmas
mod FloorLemmas
