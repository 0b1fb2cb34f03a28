pub mod Json
pub mod Message
pub mod Diagnostics
pub mod Targets
