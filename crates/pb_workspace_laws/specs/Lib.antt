pub mod Files
pub mod Packages
pub mod Binaries
pub mod Members
pub mod Folders
pub mod Laws
pub mod Ways
