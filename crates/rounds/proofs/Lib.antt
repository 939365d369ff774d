pub mod Loop
pub mod Stepping
pub mod Rising
pub mod Calls
