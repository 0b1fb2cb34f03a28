pub mod Beginning
pub mod Judged
pub mod Looking
pub mod Rows
pub mod Taking
