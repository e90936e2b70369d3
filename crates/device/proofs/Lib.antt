pub mod Laws
pub mod Formatting
pub mod Lent
pub mod Tried
