pub mod Notes
pub mod Looks
