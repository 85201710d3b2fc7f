-- Laws of an addition's tests and of the parts of its path.
pub mod Texts
pub mod Rules
