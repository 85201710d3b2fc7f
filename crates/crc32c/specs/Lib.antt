-- The definitions that the contracts of `crc32c` cite.
pub mod Crc
pub mod private
