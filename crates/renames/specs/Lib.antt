-- The definitions that the contracts of `renames` cite. They rely on those of `path`, `tables` and `rules`.
pub mod Renames
pub mod Finding
pub mod private
