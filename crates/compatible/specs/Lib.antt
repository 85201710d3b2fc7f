-- The definitions that the contracts of `compatible` cite. They rely on those of `path`, `tables`, `rules`, `answers`
-- and `names`.
pub mod Compatible
pub mod private
