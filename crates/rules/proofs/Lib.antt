-- Laws of rules in order, and of deciding by them.
pub mod Rules
pub mod Deciding
