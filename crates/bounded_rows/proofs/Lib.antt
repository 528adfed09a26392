pub mod Lists
mod Words
pub mod Standing
mod Acting
mod Turning
mod Asking
