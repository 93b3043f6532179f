pub mod BuiltPrograms
pub mod Capped
pub mod Parts
