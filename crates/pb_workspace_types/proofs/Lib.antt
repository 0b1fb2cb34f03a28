pub mod Halving
pub mod NamesInPaths
