pub mod Stories
pub mod Calls
pub mod Answers
