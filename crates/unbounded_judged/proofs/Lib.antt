pub mod Kept
pub mod Judged
pub mod Chain
pub mod Knows
