pub mod List
pub mod Call
pub mod Print
pub mod Claims
