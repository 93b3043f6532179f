pub mod Covering
pub mod Elements
pub mod Examples
pub mod Lists
pub mod Ranges
pub mod Repeats
