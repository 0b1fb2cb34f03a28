pub mod Grouping
pub mod Reasons
pub mod Started
