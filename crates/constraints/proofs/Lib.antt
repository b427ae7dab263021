pub mod PairInequalities
pub mod BothOfPairs
mod ListedConstraints
