pub mod Short
pub mod State
