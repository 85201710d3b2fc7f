-- The definitions that the contracts of `tables` cite, and the model of a set that the tables mean. They
-- rely on `lists`.
pub mod Span
pub mod Rows
pub mod Entry
pub mod Model
pub mod Lending
