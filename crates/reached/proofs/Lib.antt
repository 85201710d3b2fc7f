-- Theorems on sets' tables: what opening, additions, trims and cleanings do to what the tables mean, and what BEP 3, 47 and 52 say of
-- the sets that these calls lead to.
pub mod Cleaned
pub mod Documents
