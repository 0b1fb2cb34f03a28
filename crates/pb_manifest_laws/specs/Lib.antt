pub mod Values
pub mod Packages
pub mod Dependencies
pub mod Profiles
pub mod Workspaces
pub mod Documents
pub mod Written
pub mod Laws
