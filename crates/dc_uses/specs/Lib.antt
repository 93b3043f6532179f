pub mod Constants
pub mod Uses
