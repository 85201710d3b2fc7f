-- The definitions that the contracts of `renamed` cite. They rely on those of `path`, `tables`, `rules`, `names` and
-- `renames`.
pub mod Questions
pub mod Results
