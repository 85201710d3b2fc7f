-- Laws of CRC-32C: the step by a table, the table's rule, bytes fed in parts, and RFC 3720's vectors.
pub mod Steps
pub mod Entries
pub mod Parts
pub mod Vectors
