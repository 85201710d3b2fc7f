-- The definitions that the contracts of `layout` cite; those in `private` stand in contracts of private functions
-- alone.
pub mod Window
pub mod Search
pub mod Steps
pub mod Pieces
pub mod Given
pub mod Mapping
pub mod Start
pub mod private
