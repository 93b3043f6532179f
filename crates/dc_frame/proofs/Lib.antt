pub mod Changing
pub mod Examples
pub mod Gathered
pub mod Innermost
pub mod Numbered
pub mod Placed
pub mod Positions
pub mod Restarted
