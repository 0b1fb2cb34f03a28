pub mod Flying
pub mod Listing
pub mod Reports
pub mod Starting
