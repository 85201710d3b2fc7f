-- Definitions that only the steps of an addition cite; the contracts of `plan_add` and `add_file` do without them.
pub mod Texts
pub mod Checks
