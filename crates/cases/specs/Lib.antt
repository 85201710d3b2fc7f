-- Questions to a set built by calls, and the starred cases.
pub mod Questions
pub mod Cases
