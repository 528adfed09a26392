pub mod Forgets
pub mod Ways
pub mod Refuted
pub mod Faithful
pub mod RefutedPlain
pub mod OneByOne
pub mod RefutedCounts
pub mod Clauses
