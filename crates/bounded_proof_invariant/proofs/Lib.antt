pub mod Width
pub mod Upd
pub mod Ring
pub mod Effects
