pub mod Signed
pub mod Rows
