pub mod Answer
pub mod Joined
pub mod Line
pub mod Reading
pub mod Rules
pub mod TextLines
