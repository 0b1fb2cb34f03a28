pub mod Elements
pub mod Becoming
pub mod RecordPaths
pub mod Four
pub mod Renewing
pub mod Flying
pub mod Ahead
