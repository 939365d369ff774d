pub mod Parts
pub mod Begun
pub mod Filled
pub mod First
