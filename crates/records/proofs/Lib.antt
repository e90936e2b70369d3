pub mod Laws
pub mod Fronts
pub mod Places
pub mod Taken
