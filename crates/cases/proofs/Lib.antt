-- The starred cases hold.
pub mod Table
