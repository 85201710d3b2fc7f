-- `hashes::hashes::put_hashes` meets its contract: the directories that are listed are the first of the table.
use mathlib.Core.Path.{◌≡◌, ap, ◌∙◌}
use mathlib.Core.List.{List, map}
use Prim.Native.Nat.{ℕ, ◌/◌, ◌≤◌}
use lib.ListN.{length, take}
use borrow.Author.Tests.{le-leb}
use Rattle.std.proofs.Common.{rules}
use Rattle.std.specs.Simd.{first_chunks}
use Rattle.hashes.specs.Hashes.{joined_lists, HashesListed}
use Rattle.hashes.specs.private.Gathering.{hashes_after, hashes_within, all_put, hashes_put}
use Rattle.hashes.specs.private.Due.{placed}
use Rattle.hashes.proofs.Hashing.{rows-within}
use Rattle.hashes.proofs.hashes.put_hashes.Goals as goal

-- what is said of the directories that are listed is said of the first of the table
first : (state count : ℕ) (dirs text out : List ℕ) (rows : List (List ℕ)) → count ≤ length dirs / 2 → rows ≡ take count (first_chunks 2 (length dirs / 2) dirs) → (o : HashesListed)
    → o ≡ all_put (joined_lists (map (hashes_after state) (map (placed text) rows))) out → o ≡ hashes_put state dirs text count out
first state count dirs text out rows h r o q =
    let same : joined_lists (map (hashes_after state) (map (placed text) rows)) ≡ hashes_within state dirs text count =
    ap (λ (ws : List (List ℕ)). joined_lists (map (hashes_after state) (map (placed text) ws))) r ∙ rows-within state dirs text count h
    in
    q ∙ ap (λ (hs : List ℕ). all_put hs out) same ∙ rw (le-leb count (length dirs / 2) h)

pub returns-then-repeats_fit : goal.returns-then-repeats_fit
returns-then-repeats_fit c =
    let a = c.args in
    first a.state a.count a.dirs.now a.text.now a.out.now c.in_ok-dirs.dirs.now (search rules) (search rules) _ c.list_with.ensures

pub returns : goal.returns
returns c =
    let a = c.args in
    first a.state a.count a.dirs.now a.text.now a.out.now c.in_ok-dirs.dirs.now (search rules) (search rules) _ c.list_with-2.ensures
