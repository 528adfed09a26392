pub mod Running
pub mod Answering
