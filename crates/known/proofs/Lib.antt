pub mod Old
pub mod Plain
pub mod Settled
pub mod Edges
