pub mod Ascii
pub mod UnlessOom
pub mod OrderedSet
pub mod Table
pub mod Limits
pub mod Truth
