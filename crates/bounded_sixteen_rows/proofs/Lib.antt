pub mod Lists
pub mod Fitting
pub mod Turning
