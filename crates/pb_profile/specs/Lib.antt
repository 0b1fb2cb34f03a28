pub mod Line
pub mod Settings
pub mod Walking
pub mod Laws
pub mod Locations
