pub mod Work
pub mod Rows
pub mod Slot
pub mod Told
pub mod Plain
