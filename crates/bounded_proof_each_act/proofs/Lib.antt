pub mod Stamps
pub mod Sight
pub mod Steps
