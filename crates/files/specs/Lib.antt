-- The definitions that the contracts of `files` cite. They rely on those of `layout`, `answers`, `merkle`, `rules` and
-- `tables`.
pub mod Request
pub mod Files
pub mod Given
pub mod List
pub mod private
