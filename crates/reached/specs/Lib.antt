-- When tables are in order, which sets the calls lead to, and what BEP 3, 47 and 52 say of a set.
pub mod Reached
