pub mod Among
pub mod Answers
