-- The definitions that the contracts of `path` cite. They rely on `lists` and `types`.
pub mod Split
pub mod Join
