-- The definitions that the contracts of `mapping` cite. They rely on the slices of `layout`.
pub mod Table
