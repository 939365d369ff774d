pub mod Numbering
pub mod Repeats
pub mod Reading
pub mod Areas
pub mod Writing
pub mod Sizes
pub mod Claims
