pub mod Examples
pub mod Naming
pub mod Places
pub mod Spans
