-- Laws of frames.
pub mod Leads
pub mod Flat
pub mod Places
pub mod Standing
pub mod Reading
pub mod Covers
pub mod Comparing
pub mod Fronting
