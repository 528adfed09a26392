pub mod Slips
pub mod Refuted
pub mod RefutedPlain
pub mod RefutedCounts
pub mod Clauses
