pub mod Entries
pub mod Names
pub mod Counts
pub mod Ranges
pub mod Judged
