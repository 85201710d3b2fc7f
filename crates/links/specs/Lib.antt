-- The definitions that the contracts of `links` cite: what a cleaning does to a set (Clean), the flagged links one
-- after another (Flagged), the verdicts and refusals of `judge_links` (Judging); private: a verdict's number
-- (Verdicts), marks and walks (Walking).
pub mod Clean
pub mod Flagged
pub mod Judging
pub mod private
