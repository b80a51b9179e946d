pub mod Accepted
pub mod Blank
pub mod Clean
pub mod Counts
pub mod Records
pub mod Shown
pub mod Writes
