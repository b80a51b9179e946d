pub mod Part
pub mod Answers
pub mod Laws
