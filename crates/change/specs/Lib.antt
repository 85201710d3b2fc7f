-- The definitions that the contracts of `change` cite, and with them those of every change of a set.
pub mod Rooms
pub mod Changes
