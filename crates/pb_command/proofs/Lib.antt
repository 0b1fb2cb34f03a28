pub mod Absolute
pub mod Ordered
pub mod Rising
pub mod Judged
