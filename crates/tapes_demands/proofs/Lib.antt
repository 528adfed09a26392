pub mod Computed
pub mod Refusals
