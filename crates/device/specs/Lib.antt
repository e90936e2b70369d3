pub mod Lent
pub mod Tried
