pub mod Dummies
pub mod Examples
pub mod Gathering
