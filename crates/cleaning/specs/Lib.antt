-- The definitions that the contracts of `cleaning` cite: the tables after a cleaning (Cleaning); private: verdicts
-- read from marks, and lengths of new texts (Writing).
pub mod Cleaning
pub mod private
