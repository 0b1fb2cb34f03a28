pub mod First
pub mod Setting
pub mod Table
pub mod Keys
pub mod Laws
