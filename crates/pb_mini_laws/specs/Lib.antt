pub mod Honest
pub mod Said
pub mod ReadBack
pub mod Small
pub mod Laws
