pub mod Unbounded
