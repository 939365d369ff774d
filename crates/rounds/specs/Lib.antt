pub mod Rows
pub mod Step
pub mod Turns
