pub mod Features
pub mod Keys
pub mod Laws
pub mod Letters
pub mod Library
pub mod Package
pub mod Values
pub mod Versions
