pub mod WirePoints
