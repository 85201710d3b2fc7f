-- The definitions that the contracts of `blocks` cite. They rely on the slices of `layout`.
pub mod Block
