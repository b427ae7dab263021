pub mod Kinds
pub mod Statements
pub mod Circuits
pub mod Hosts
pub mod UsedKinds
pub mod Definitions
pub mod Netlists
pub mod Paths
