-- Theorems on the book of demand 3: walks over files and their blocks, what tables hold, demand 3 of a set in order,
-- questions for every cut, rows with their times, other tables that hold the same set, the book's agreement with the set over every list of calls,
-- the bytes that an addition leaves, the first file of each piece, one list with each kind of call, and the demand itself.
pub mod Walks
pub mod Blocks
pub mod Tables
pub mod Demand
pub mod Cuts
pub mod Timed
pub mod Entries
pub mod Rooted
pub mod Lent
pub mod Agree
pub mod Untouched
pub mod Firsts
pub mod Runs
pub mod Named
pub mod Refusals
pub mod Example
pub mod Says
pub mod Theorem
