pub mod Known
pub mod Test
pub mod Table
pub mod Edges
