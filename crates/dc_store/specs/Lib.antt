pub mod Keeping
pub mod Rows
pub mod Shaped
pub mod Whole
