-- The laws and invariants by which the functions of `script` are proved.
pub mod Scans
pub mod Units
