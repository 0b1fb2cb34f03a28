pub mod Words
pub mod Externs
pub mod Said
