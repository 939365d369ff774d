pub mod Hash
pub mod Places
