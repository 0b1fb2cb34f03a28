mod Ahead
pub mod Lines
