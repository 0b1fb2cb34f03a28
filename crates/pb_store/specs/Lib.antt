pub mod Calls
pub mod Asking
pub mod Differences
pub mod Folder
pub mod Looking
pub mod Presence
pub mod Matching
