pub mod Index
pub mod Place
pub mod Held
pub mod Same
