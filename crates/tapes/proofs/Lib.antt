pub mod Pairs
pub mod Loads
pub mod Fills
pub mod Answers
pub mod Hears
