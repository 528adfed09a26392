mod Laws
pub mod Outcome
