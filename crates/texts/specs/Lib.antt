-- The definitions that the contracts of `texts` cite: one link's text removed and written (Texts); private: a join
-- behind the used part, and the room there (Parts).
pub mod Texts
pub mod private
