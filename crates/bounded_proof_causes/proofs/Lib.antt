pub mod Found
pub mod Rows
pub mod Folds
pub mod Said
pub mod Causes
pub mod Alone
