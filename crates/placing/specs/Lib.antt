pub mod Partial
pub mod Same
