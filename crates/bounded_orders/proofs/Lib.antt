pub mod Fitting
pub mod Making
pub mod Judging
pub mod Listing
