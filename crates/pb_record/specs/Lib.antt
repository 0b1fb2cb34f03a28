pub mod Grammar
pub mod Numbers
pub mod Parts
pub mod Reading
pub mod Laws
pub mod Sorted
pub mod Whole
pub mod Commands
