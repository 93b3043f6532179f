pub mod Entries
pub mod Kinds
pub mod Operations
pub mod Reductions
pub mod Shapes
pub mod Sorts
pub mod Store
