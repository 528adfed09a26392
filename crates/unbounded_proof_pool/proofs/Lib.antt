pub mod Aside
pub mod Pool
