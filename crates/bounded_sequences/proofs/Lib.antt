pub mod Acting
pub mod Turning
pub mod Lasting
