pub mod Answering
pub mod Determined
pub mod Either
mod Examples
pub mod Longest
pub mod LongestLiteral
pub mod LongestMark
pub mod LongestNumber
pub mod Spans
pub mod Steps
mod TextExamples
