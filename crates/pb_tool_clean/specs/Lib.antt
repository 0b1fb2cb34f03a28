pub mod Names
pub mod Calls
pub mod Cleaning
pub mod Laws
