pub mod Sample
pub mod Fletcher
pub mod Examples
