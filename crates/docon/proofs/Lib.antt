pub mod Causes
pub mod Examples
pub mod Matching
pub mod Numbers
pub mod Reports
pub mod Surely
