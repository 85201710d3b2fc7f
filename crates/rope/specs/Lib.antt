-- The definitions that the contracts of `rope` cite: a path as frames (Rope).
pub mod Rope
