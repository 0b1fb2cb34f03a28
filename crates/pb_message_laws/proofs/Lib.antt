mod Lines
mod Diagnostics
mod Telling
pub mod Texts
pub mod Streams
