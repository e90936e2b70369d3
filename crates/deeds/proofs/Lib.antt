pub mod Bound
pub mod Examples
