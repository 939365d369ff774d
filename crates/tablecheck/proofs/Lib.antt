pub mod Words
pub mod Spelling
pub mod Meeting
pub mod Turns
pub mod Alike
pub mod Formed
