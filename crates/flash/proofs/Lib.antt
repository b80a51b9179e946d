pub mod Alike
pub mod Keeps
pub mod Wear
