pub mod Machine
pub mod Drop
pub mod Broken
pub mod Turn
pub mod Contents
pub mod Run
pub mod History
