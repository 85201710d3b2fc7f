-- The turns of a walk, each by what stands at the part that the walk looks at. They rely on proofs/Walk.antt.
use Prim.Native.Nat.{ℕ, ◌+◌, ◌<◌, ◌≤◌}
use mathlib.Core.Path.{◌≡◌, sym, ◌∙◌}
use mathlib.Core.Bool.{Bool, true, false}
use mathlib.Core.List.{List}
use lib.ListN.{length, take, drop}
use borrow.Author.Tests.{lt-ltb, le-ltb}
use Rattle.path.specs.Join.{combined}
use Rattle.links.specs.Clean.{Link, none, to, lead_at, without_link, stop, done, on, part_end, step, goes, left}
use Rattle.links.proofs.Walk.{goes-stop, goes-done, goes_on_lem, step_less}

module _ (dir ends : List ℕ → Bool) (ls : List Link) (p : List ℕ) (e : ℕ) where
  at-end : length p ≤ e → step dir ls p e ≡ done
  unfolding step
  at-end h = rw (le-ltb e (length p) h)

  -- at the path's end
  pub turn_end : length p ≤ e → goes dir ends ls p e ≡ ends p
  turn_end h = goes-done dir ends ls p e (at-end h)

  module _ (h : e < length p) where
    on-dir : dir (take e p) ≡ true → e < part_end p (e + 1) → step dir ls p e ≡ on ls p (part_end p (e + 1))
    unfolding step
    on-dir d n = rw (lt-ltb e (length p) h, d, lt-ltb e (part_end p (e + 1)) n)

    stop-dir : dir (take e p) ≡ true → part_end p (e + 1) ≤ e → step dir ls p e ≡ stop
    unfolding step
    stop-dir d n = rw (lt-ltb e (length p) h, d, le-ltb e (part_end p (e + 1)) n)

    on-link : (t : List ℕ) → dir (take e p) ≡ false → lead_at ls (take e p) ≡ to t → step dir ls p e ≡ on (without_link (take e p) ls) (combined t (drop (e + 1) p)) (part_end (combined t (drop (e + 1) p)) 0)
    unfolding step
    on-link t d l = rw (lt-ltb e (length p) h, d, l)

    stop-link : dir (take e p) ≡ false → lead_at ls (take e p) ≡ none → step dir ls p e ≡ stop
    unfolding step
    stop-link d l = rw (lt-ltb e (length p) h, d, l)

    -- through a directory
    pub turn-dir : dir (take e p) ≡ true → e < part_end p (e + 1) → goes dir ends ls p (part_end p (e + 1)) ≡ goes dir ends ls p e
    turn-dir d n = sym (goes_on_lem dir ends ls p e ls p (part_end p (e + 1)) (on-dir d n))

    -- a directory whose next end is no further on
    pub turn-dir-stop : dir (take e p) ≡ true → part_end p (e + 1) ≤ e → goes dir ends ls p e ≡ false
    turn-dir-stop d n = goes-stop dir ends ls p e (stop-dir d n)

    -- neither a directory nor an untraversed link
    pub turn-link-stop : dir (take e p) ≡ false → lead_at ls (take e p) ≡ none → goes dir ends ls p e ≡ false
    turn-link-stop d l = goes-stop dir ends ls p e (stop-link d l)

    -- through a link; the next state is given by its equations
    module _ (t : List ℕ) (d : dir (take e p) ≡ false) (l : lead_at ls (take e p) ≡ to t) (ls' : List Link) (p' : List ℕ) (e' : ℕ)
        (i : without_link (take e p) ls ≡ ls') (j : p' ≡ combined t (drop (e + 1) p)) (k : e' ≡ part_end p' 0) where
      next : step dir ls p e ≡ on ls' p' e'
      next = on-link t d l ∙ rw (i, ← j, ← k)

      pub turn-link : goes dir ends ls' p' e' ≡ goes dir ends ls p e
      turn-link = sym (goes_on_lem dir ends ls p e ls' p' e' next)

      pub turn-link-less : left ls' p' e' < left ls p e
      turn-link-less = step_less dir ls p e ls' p' e' next
