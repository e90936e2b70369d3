pub mod Digits
pub mod Signed
pub mod Laid
pub mod Examples
