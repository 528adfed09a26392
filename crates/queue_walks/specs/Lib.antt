pub mod Walks
pub mod Listed
pub mod Meaning
