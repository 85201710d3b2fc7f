-- Laws of hashes in order: of a directory's hashes, of putting them into a table, and of counting them. They rely on the laws of
-- `lists`, `crc32c` and `rules`.
pub mod Ascending
pub mod Collecting
pub mod Hashing
pub mod Filling
pub mod Listing
