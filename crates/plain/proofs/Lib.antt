pub mod Stepping
pub mod Consequences
pub mod Rising
pub mod Calls
