-- What the loops over strings and roots keep.
use Rattle.std.proofs.Common.{ℕ, ◌+◌, ◌≤◌, List, ◌++◌, length, take, ◌≡◌}
use Rattle.std.proofs.lemmas.List.Edits.{sets}
use Rattle.script.specs.Strings.{Text}

-- a string at a place of its loop: S is what the word stands for, T what is left of it, and n bytes of the target are used
pub record State (S : Text) (used : ℕ) (target₀ : List ℕ) (T : Text) (n : ℕ) (target : List ℕ) : Type 0 where
  pub within : n ≤ length target₀
  pub same_length : length target ≡ length target₀
  pub ends : n + length T.bytes ≡ used + length S.bytes
  pub formed : T.is_formed ≡ S.is_formed
  pub written : sets target n T.bytes ≡ sets target₀ used S.bytes

-- a root at a place of its loop: S is what the word spells, T what is left of it, and i bytes of the root are there
pub record Partly (S T : Text) (i : ℕ) (root : List ℕ) : Type 0 where
  pub whole : length root ≡ 32
  pub formed : T.is_formed ≡ S.is_formed
  pub written : take i root ++ T.bytes ≡ S.bytes
