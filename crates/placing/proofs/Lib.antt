pub mod Steps
pub mod Overwriting
pub mod Filling
