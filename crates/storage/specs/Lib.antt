-- The definitions that the contracts of `storage` cite, beside those of `plan`: a set that is opened.
pub mod Opening
pub mod private
