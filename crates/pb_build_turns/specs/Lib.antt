pub mod Executor
pub mod Rows
pub mod Calling
pub mod History
pub mod Ends
