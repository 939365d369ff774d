pub mod Uniting
pub mod Turns
pub mod Outcomes
