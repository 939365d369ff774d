pub mod Line
pub mod Found
pub mod Held
