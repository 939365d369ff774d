pub mod Bytes
pub mod Letters
pub mod Fill
pub mod Grammar
pub mod Lines
pub mod Claims
