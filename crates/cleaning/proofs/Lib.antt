-- Laws of cleanings.
pub mod Passes
pub mod Rooms
pub mod Links
pub mod Cleans
