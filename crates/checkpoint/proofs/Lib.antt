pub mod Bytes
pub mod Lay
pub mod Encoded
pub mod Marking
pub mod Turning
pub mod Restoring
