pub mod Laws
pub mod Fits
