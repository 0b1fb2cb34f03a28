pub mod Apart
pub mod Grounded
pub mod Inputs
pub mod Laws
pub mod Numbers
pub mod Records
pub mod Reuse
pub mod Sound
