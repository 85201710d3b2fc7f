-- What the layout answers mean, proved: numbers of pieces, the answers on tables that hold files of given sizes, and the same
-- for every list of calls; that rows before a window do not count; and what `mtime` means.
pub mod Numbers
pub mod Tables
pub mod Answers
pub mod Alike
pub mod Times
