pub mod Ways
pub mod Tables
