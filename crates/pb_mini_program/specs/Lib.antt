pub mod Faults
pub mod OutFolder
pub mod Writing
