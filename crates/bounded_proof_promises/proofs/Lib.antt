pub mod OnlyOne
pub mod Lent
