-- Laws of imports: the list as it is lent, what is kept, what is given, and how both come together. They rely on the laws of `lists`,
-- `rules` and `renames`.
pub mod Imported
pub mod Keeping
pub mod Noting
pub mod Counting
pub mod Merging
pub mod Raising
pub mod Merged
pub mod Importing
pub mod Lent
