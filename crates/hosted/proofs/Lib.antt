pub mod Refusals
pub mod Ends
