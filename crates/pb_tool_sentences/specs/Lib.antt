pub mod Details
pub mod Libraries
