pub mod Range
pub mod Atoms
pub mod Running
pub mod Listed
pub mod Calls
