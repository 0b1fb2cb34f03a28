pub mod Units
pub mod Plan
pub mod Drawing
pub mod Laws
