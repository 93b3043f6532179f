pub mod Answers
pub mod Bytes
pub mod Lexemes
pub mod Progress
pub mod Readings
pub mod Scan
pub mod Tokens
