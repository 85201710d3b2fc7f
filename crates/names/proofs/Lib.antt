-- Laws of composed paths and of their hashes. They rely on the laws of `lists`, `path` and `crc32c`.
pub mod Composed
pub mod Paths
