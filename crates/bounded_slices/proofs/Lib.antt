mod Judging
mod Filling
mod Fitting
pub mod Judged
