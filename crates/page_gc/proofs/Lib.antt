pub mod Copying
pub mod Passes
