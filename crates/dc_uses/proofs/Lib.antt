pub mod Examples
pub mod KeptKinds
pub mod Names
