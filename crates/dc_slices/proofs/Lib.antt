pub mod CutSteps
pub mod Judged
pub mod Lists
