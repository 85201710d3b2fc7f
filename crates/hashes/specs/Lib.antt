-- The definitions that the contracts of `hashes` cite. They rely on those of `path`, `crc32c`, `tables`, `rules` and
-- `names`.
pub mod Hashes
pub mod private
