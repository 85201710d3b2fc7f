-- Laws of the lent tables' rooms.
pub mod Held
