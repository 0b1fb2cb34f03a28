pub mod Description
pub mod Asking
pub mod Unknown
pub mod Private
