pub mod Joins
pub mod Numbers
pub mod Pairs
pub mod Parts
pub mod Utf8
