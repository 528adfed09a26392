pub mod Pick
pub mod Reading
pub mod Limits
pub mod Searching
