pub mod Spelling
pub mod Rows
pub mod Chains
pub mod Entering
pub mod LookUp
