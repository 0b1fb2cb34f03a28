pub mod Faults
pub mod Lines
pub mod Directives
pub mod DepInfo
pub mod Metadata
pub mod LineWords
pub mod InfoWords
pub mod Laws
