pub mod Reading
pub mod Writing
pub mod Walking
pub mod Atoms
