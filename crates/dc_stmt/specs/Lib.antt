pub mod Answers
pub mod Depth
pub mod Headings
pub mod Reading
