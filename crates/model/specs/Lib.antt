-- What document 01, and 02 as far as it has landed, say, as definitions that compute. Each carries the sentence that it says, in quotation marks.
pub mod Lists
pub mod Numbers
pub mod Causes
pub mod Tables
pub mod Sound
pub mod Device
pub mod Contract
pub mod PageMap
pub mod PageWrite
pub mod PageGc
pub mod Checkpoint
pub mod Entry
pub mod History
