pub mod Spelt
pub mod Short
pub mod Judged
