pub mod Write
pub mod Names
