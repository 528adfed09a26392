pub mod Mixed
pub mod Headlines
