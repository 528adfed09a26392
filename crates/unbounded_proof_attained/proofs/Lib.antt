pub mod First
pub mod Attained
pub mod EachNumber
