pub mod Slips
pub mod Refuted
pub mod RefutedPlain
pub mod Further
pub mod Whole
pub mod PlainWhole
