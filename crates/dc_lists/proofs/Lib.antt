pub mod Examples
pub mod Lines
pub mod Narrowing
pub mod Numbers
pub mod Parsing
pub mod Prefixes
pub mod Texts
