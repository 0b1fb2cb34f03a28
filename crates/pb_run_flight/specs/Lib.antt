pub mod Table
pub mod Events
pub mod Calls
pub mod Steps
pub mod Laws
pub mod Working
pub mod Driving
