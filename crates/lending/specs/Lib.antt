pub mod Does
pub mod Unit
