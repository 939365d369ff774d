pub mod Ours
pub mod Tables
pub mod Scans
pub mod Steps
pub mod Hashing
