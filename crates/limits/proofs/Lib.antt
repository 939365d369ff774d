pub mod Causes
pub mod Numbers
