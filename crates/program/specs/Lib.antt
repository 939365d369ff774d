pub mod Program
pub mod System
pub mod Standard
pub mod Samples
pub mod Table
pub mod Claims
