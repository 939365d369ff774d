pub mod Silent
pub mod Stepping
pub mod Marking
pub mod Lending
pub mod Lining
pub mod Calling
