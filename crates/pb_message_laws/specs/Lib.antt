pub mod OneLine
pub mod Told
pub mod Objects
pub mod Streams
