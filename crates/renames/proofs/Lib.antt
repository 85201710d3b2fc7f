-- Laws of renames: tables in order, where texts begin, the search, changes, and renames read back. They rely on the laws of `lists` and
-- `rules`.
pub mod Ordered
pub mod Halves
pub mod Placed
pub mod Slots
pub mod Chunks
pub mod Used
pub mod Splices
pub mod Readings
pub mod Changes
pub mod Deciding
pub mod Decisions
pub mod Finding
pub mod Rising
pub mod Kept
pub mod Vectors
