pub mod Words
pub mod Stands
pub mod Frames
pub mod Loads
pub mod Live
pub mod Sims
pub mod Cells
pub mod Blocks
