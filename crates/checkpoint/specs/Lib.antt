pub mod Checked
pub mod Turns
