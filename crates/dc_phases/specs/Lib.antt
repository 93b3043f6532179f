pub mod Answer
pub mod Gathering
pub mod Lists
pub mod Phases
