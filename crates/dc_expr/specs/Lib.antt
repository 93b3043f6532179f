pub mod Answers
pub mod Limited
pub mod Views
