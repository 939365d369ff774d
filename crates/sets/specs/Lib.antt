pub mod Set
pub mod Steps
pub mod Claims
