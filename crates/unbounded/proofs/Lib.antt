pub mod Steps
pub mod Items
