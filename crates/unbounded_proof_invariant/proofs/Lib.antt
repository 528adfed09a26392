pub mod Queue
pub mod Kept
pub mod Views
pub mod Relied
pub mod Own
pub mod Idle
