pub mod Plain
pub mod Story
pub mod OneStep
