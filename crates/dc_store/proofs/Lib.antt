pub mod Changing
pub mod Declared
pub mod Examples
pub mod Finding
pub mod Undefined
