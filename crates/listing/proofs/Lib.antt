pub mod Heads
pub mod Held
pub mod Lines
pub mod Whole
pub mod Numbers
