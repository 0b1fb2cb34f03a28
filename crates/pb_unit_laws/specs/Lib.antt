pub mod Features
pub mod Needs
pub mod Profiles
pub mod Targets
pub mod Items
pub mod Kinds
pub mod Settings
pub mod Levels
