pub mod FirstStores
pub mod MarkViews
pub mod Marks
pub mod Plainly
pub mod Sizes
pub mod TakingBack
pub mod Views
