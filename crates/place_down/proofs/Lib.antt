mod Vocabulary
mod SourceLemmas
mod RegionBounds
mod Standing
mod Placed
