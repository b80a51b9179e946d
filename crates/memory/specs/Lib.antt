pub mod Layout
pub mod Memory
