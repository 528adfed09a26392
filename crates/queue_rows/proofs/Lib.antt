pub mod Alike
pub mod Filling
