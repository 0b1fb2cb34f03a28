pub mod Workspace
pub mod Settled
pub mod ByKey
