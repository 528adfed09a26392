pub mod Refusals
pub mod Numbers
pub mod Attained
pub mod Runs
pub mod EachNumber
pub mod Exactly
