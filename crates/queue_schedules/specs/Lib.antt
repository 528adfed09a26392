pub mod Alone
pub mod Reading
