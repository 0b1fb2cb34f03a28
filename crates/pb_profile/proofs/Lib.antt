pub mod Located
pub mod Walks
pub mod Lines
pub mod Rings
pub mod Found
