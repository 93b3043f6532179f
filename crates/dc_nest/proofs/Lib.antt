mod Examples
pub mod Found
pub mod Judged
pub mod Made
pub mod Reading
pub mod Units
pub mod Unique
