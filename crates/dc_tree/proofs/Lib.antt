pub mod Back
pub mod BlocksBack
mod ConstantExamples
mod Examples
mod FindingExamples
pub mod Findings
pub mod Names
pub mod Places
pub mod Ranks
pub mod ReadingComplete
pub mod ReadingSound
pub mod Results
mod StatementExamples
pub mod StatementsBack
pub mod Views
