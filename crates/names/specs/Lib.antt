-- The definitions that the contracts of `names` cite. They rely on those of `path`, `crc32c`, `tables` and `rules`.
pub mod Paths
pub mod private
