pub mod Dashes
pub mod Matching
pub mod Parting
