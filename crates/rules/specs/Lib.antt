-- Refusals in order: document 01's rules for questions, and the answers that carry a value or a refusal. They rely on
-- those of `types`, `lists`, `path` and `tables`.
pub mod Rules
pub mod Bounds
pub mod Results
pub mod Questions
pub mod Composed
