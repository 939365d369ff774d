pub mod Lines
pub mod Lengths
pub mod Rules
pub mod Calls
