-- the rows of 01's table: what a refusal leaves, exactly when each answer is given, its sign
pub mod Passed
pub mod Walk
pub mod Unchanged
pub mod Ends
pub mod Leaves
pub mod Tested
pub mod Programs
pub mod Exactly
pub mod Signs
-- units: formatted and opened, what a read shows, marked pages, power on
pub mod Fresh
pub mod Beyond
pub mod Seen
pub mod Marked
pub mod Kept
pub mod PowerOn
-- the protocol of docs/USING.md
pub mod Sparing
pub mod Protocol
pub mod Draining
pub mod Steps
-- 02, M-102: no programming refused for its order
pub mod Served
-- 02, M-101: the new numbers beside the old
pub mod Told
-- 02, M-109: what a restore leaves under either choice
pub mod Queued
-- 02, M-111: what a collection gains
pub mod Gained
-- the sort of the queue and the walk over the segments
pub mod Order
-- premises that can be met
pub mod Premises
-- the three demands, of the functions that run
pub mod Demands
