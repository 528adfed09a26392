mod Answering
pub mod Recording
