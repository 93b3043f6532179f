mod Examples
pub mod Answering
pub mod Cutting
pub mod Waiting
