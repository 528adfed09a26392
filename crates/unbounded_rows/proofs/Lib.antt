pub mod Points
pub mod Places
pub mod Going
pub mod Standing
