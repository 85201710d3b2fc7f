-- The laws of `answers`: what an answer means of the set.
pub mod Meanings
