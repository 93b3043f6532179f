pub mod Cutting
pub mod Finding
pub mod Judging
pub mod Words
