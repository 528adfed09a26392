pub mod RefutedPlain
pub mod Refuted
pub mod Faithful
pub mod Whole
pub mod Further
pub mod PlainWhole
