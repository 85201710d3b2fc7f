-- Definitions that only private functions cite: where the search stands, what is known of a set once no rule stopped a
-- question about its pieces, and the piece that such a question is about.
pub mod Level
pub mod Deciding
pub mod Asked
