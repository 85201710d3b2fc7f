-- The laws of `path`: of its splits, of a path's two ends, of its joins, and of a branch and a leaf that are glued.
pub mod Splits
pub mod Ends
pub mod Joins
pub mod Glued
