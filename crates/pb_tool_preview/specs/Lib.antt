pub mod Foreseeing
pub mod Telling
pub mod Laws
