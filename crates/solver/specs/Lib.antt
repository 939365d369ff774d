pub mod Range
pub mod Run
pub mod End
pub mod Lent
