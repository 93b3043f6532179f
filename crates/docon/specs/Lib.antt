pub mod Answers
pub mod Causes
pub mod Matches
pub mod Report
pub mod Room
pub mod Sure
pub mod Words
pub mod Writing
