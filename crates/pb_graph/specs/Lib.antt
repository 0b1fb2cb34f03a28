pub mod Closure
pub mod Table
pub mod Index
pub mod Placed
pub mod Graph
pub mod Order
pub mod Working
