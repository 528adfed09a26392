pub mod Laws
pub mod Kept
pub mod Items
pub mod Turns
