pub mod Capped
pub mod Headers
pub mod Named
mod Examples
