pub mod Released
pub mod Versions
