pub mod Says
pub mod Counts
pub mod Marked
pub mod Passed
pub mod Bijection
pub mod Placed
pub mod Flat
pub mod Whole
