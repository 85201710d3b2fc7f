-- Laws of questions through the renames: deciding, names and paths. They rely on the laws of `lists`, `path`, `rules`, `names` and
-- `renames`.
pub mod Deciding
pub mod Questions
pub mod Paths
