pub mod Instructions
pub mod Listing
pub mod Words
