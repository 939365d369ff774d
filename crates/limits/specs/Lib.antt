pub mod Book
pub mod Cause
pub mod Refusal
