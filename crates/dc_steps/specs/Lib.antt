pub mod Calling
pub mod Carrying
pub mod Elementwise
pub mod Ending
pub mod Halting
pub mod Ready
pub mod Spans
pub mod Working
