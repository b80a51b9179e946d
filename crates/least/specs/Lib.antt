pub mod Least
pub mod Orders
