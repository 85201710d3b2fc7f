-- Laws of comparing paths and sets. They rely on the laws of `lists`, `path`, `rules` and `names`, and on what the library says of
-- iterators.
pub mod Items
pub mod Rows
pub mod Runs
pub mod Sets
pub mod Walks
