pub mod Turning
pub mod Making
pub mod Running
pub mod Listing
