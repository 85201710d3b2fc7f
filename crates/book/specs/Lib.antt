-- The book of demand 3, the times of its rows, its table of refusals, the relation of calls and the demand itself.
pub mod Book
pub mod Times
pub mod Refusals
pub mod Calls
pub mod Slices
pub mod Demand
