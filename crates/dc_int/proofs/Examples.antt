-- Examples of the definitions, each computed.
pub mod Entries
pub mod Operations
pub mod Reductions
pub mod Shapes
pub mod Store
