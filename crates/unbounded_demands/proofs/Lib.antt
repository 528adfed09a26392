pub mod Refusals
pub mod Numbers
pub mod Exactly
pub mod Blocks
pub mod Pool
pub mod Runs
pub mod Answers
pub mod Breaks
