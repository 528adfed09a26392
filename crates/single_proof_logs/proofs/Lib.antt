pub mod Slot
pub mod Hosted
