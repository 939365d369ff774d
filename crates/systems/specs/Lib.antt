pub mod Rows
pub mod Fold
pub mod Rounds
pub mod Standardise
pub mod Sizes
pub mod Claims
