pub mod Stable
pub mod Ordered
pub mod Counting
pub mod Placing
pub mod Merging
pub mod Sorting
pub mod Taking
