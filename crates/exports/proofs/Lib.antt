-- The lemmas of `exports`.
mod Exported
