pub mod Answer
pub mod Cases
pub mod Covers
pub mod Deeds
pub mod Headers
pub mod Ranges
pub mod Scope
