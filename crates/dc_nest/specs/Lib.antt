pub mod Ahead
pub mod Answer
pub mod Judging
pub mod Nested
pub mod Places
pub mod Rules
