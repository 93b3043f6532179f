pub mod Apart
pub mod Caps
mod Examples
pub mod Rules
pub mod Sound
pub mod Tabled
