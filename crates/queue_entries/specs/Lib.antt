pub mod Limits
pub mod Entries
pub mod Schedules
pub mod Told
