pub mod Under
pub mod Ring
