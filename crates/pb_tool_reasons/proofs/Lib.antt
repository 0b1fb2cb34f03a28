pub mod Starting
pub mod Lines
