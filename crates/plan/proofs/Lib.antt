-- Laws of directories, of texts in a row and of plans.
pub mod Directories
pub mod Joined
pub mod Plans
