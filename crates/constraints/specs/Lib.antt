pub mod PairConstraints
