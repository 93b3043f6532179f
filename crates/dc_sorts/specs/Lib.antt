pub mod Forms
pub mod Functions
pub mod Knowing
pub mod Meanings
pub mod Naming
pub mod References
pub mod Standing
