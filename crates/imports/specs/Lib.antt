-- The definitions that the contracts of `imports` cite. They rely on those of `rules` and `renames`.
pub mod Imports
pub mod private
