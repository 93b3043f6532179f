pub mod First
pub mod Gathered
pub mod Items
pub mod Answering
pub mod Unique
