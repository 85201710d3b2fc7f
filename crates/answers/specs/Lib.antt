-- The definitions that the contracts of `answers` cite. They rely on those of `tables`, `path` and `rules`.
pub mod Answers
pub mod Given
