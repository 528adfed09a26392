pub mod Listing
pub mod Sizes
pub mod Meaning
