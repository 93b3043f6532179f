pub mod Breaks
pub mod Cutting
pub mod Ends
pub mod Examples
pub mod Laws
pub mod Pieces
pub mod Signs
pub mod Steps
