pub mod Laws
pub mod Marks
pub mod Fits
pub mod Zeros
