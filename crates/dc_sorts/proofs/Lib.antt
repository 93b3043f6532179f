pub mod Capping
pub mod Entities
pub mod Examples
pub mod Knowing
pub mod References
