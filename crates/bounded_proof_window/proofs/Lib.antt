pub mod Paths
pub mod Acting
pub mod Pushing
pub mod Rounds
pub mod Kept
pub mod Asleep
pub mod NoWider
pub mod Fullest
