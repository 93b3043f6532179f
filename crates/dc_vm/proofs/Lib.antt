pub mod Moved
pub mod Pauses
pub mod Called
pub mod Small
