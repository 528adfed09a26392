pub mod Shorts
pub mod Faces
