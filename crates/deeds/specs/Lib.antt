pub mod Deeds
pub mod Kept
pub mod Output
