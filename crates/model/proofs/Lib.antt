-- lists and tests
pub mod Slots
pub mod Counts
pub mod Tests
pub mod Regions
pub mod Bytes
-- addresses
pub mod Address
-- sound tables: the working form, the test, the official form, and the words that tables lie in
pub mod Working
pub mod Reading
pub mod Decide
pub mod Official
pub mod View
-- steps
pub mod Spend
pub mod Find
pub mod Unlink
pub mod Enqueue
pub mod Forget
pub mod Place
pub mod Taken
pub mod Reset
-- device operations
pub mod Content
pub mod Ops
pub mod Fuse
-- calls
pub mod Write
pub mod Collect
pub mod Format
pub mod Inner
-- checkpoint
pub mod Base
pub mod Restore
pub mod Sealed
pub mod Requeue
-- entries
pub mod Guard
pub mod Outcome
pub mod Causes
pub mod Told
pub mod Entry
-- 02, M-102: no programming refused for its order
pub mod Order
-- 02, M-111: what a collection gains
pub mod Gains
-- demand 3: what a power cut leaves, and what a checkpoint gives back
pub mod Cut
pub mod Round
-- laws for code
pub mod Held
pub mod Frame
pub mod Turns
pub mod Refusals
-- premises that can be met
pub mod Witness
-- examples
pub mod Examples
