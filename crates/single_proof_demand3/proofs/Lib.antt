pub mod Falls
pub mod Solo
pub mod Hand
pub mod Demand3
