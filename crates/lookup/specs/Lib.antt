-- The definitions that the contracts of `lookup` cite: what stands at a path (Lookup), the work space that links need
-- (Space); private: files and directories from the i-th on (Rows), a set that is passed whole (Sets).
pub mod Lookup
pub mod Space
pub mod private
