-- What the search for the pad that a trim removes finds: document 01, `remove_tail_padding`, 'skips empty files, removes at
-- most one pad'. All on lists of files; it relies on the definition of `tail_pad` alone.
use Rattle.std.specs.Prelude.{Option, Some, None}
use mathlib.Core.Path.{◌≡◌, refl, subst}
use mathlib.Core.Bool.{Bool, true, false, cond}
use mathlib.Core.List.{List, [], ◌∷◌, map}
use Prim.Native.Nat.{ℕ, zero, suc, ◌+◌, ◌%◌, ◌<◌}
use native.Mathlib.Omega.{arith}
use lib.Dec.{eqb}
use mathlib.Core.Logic.{⊎_elim}
use native.Mathlib.Nat.{zero-add}
use lib.ListN.{length, get_or}
use borrow.Author.Tests.{eqb-true, eqb-false}
use Rattle.lists.proofs.Orders.{le-or-lt}
use Rattle.tables.specs.Model.{present_if, File}
use Rattle.trim.specs.Trim.{tail_pad, tail_pad_from, size_at}

abbrev pub flags_at : ℕ → List File → ℕ
flags_at f files = get_or (map (λ (g : File). g.flags) files) f 0

-- file f is the last that is not empty
pub record Last (files : List File) (f : ℕ) : Type 0 where
  pub there : f < length files
  pub nonempty : 0 < size_at f files
  pub behind : (k : ℕ) → f < k → size_at k files ≡ 0

-- what a search from place i on gives that found something before
data Search (i : ℕ) (found : Option ℕ) (files : List File) : Option ℕ → Type 0 where
  none : ((k : ℕ) → size_at k files ≡ 0) → Search i found files found
  last : (f : ℕ) → Last files f → Search i found files (present_if (eqb (flags_at f files % 2) 1) (i + f))

past-nil : (k : ℕ) → size_at k [] ≡ 0
past-nil zero = refl
past-nil (suc k) = refl

-- what is found once file g was looked at, at place i
abbrev step : ℕ → Option ℕ → File → Bool → Option ℕ
step i found g b = cond b found (present_if (eqb (g.flags % 2) 1) i)

search-from : (i : ℕ) (found : Option ℕ) (files : List File) → Search i found files (tail_pad_from i found files)
search-from i found [] = none past-nil
search-from i found (g ∷ gs) =
    at (tail_pad_from (i + 1) (step i found g (eqb g.size 0)) gs) (eqb g.size 0) (search-from (i + 1) (step i found g (eqb g.size 0)) gs) refl
  where
    later : g.size ≡ 0 → ((k : ℕ) → size_at k gs ≡ 0) → (k : ℕ) → size_at k (g ∷ gs) ≡ 0
    later e z zero = e
    later e z (suc k) = z k

    behind-first : ((k : ℕ) → size_at k gs ≡ 0) → (k : ℕ) → 0 < k → size_at k (g ∷ gs) ≡ 0
    behind-first z zero h = absurd (omega arith)
    behind-first z (suc k) h = z k

    behind-next : (f : ℕ) → Last gs f → (k : ℕ) → suc f < k → size_at k (g ∷ gs) ≡ 0
    behind-next f p zero h = absurd (omega arith)
    behind-next f p (suc k) h = p.behind k (omega arith)

    here : ((k : ℕ) → size_at k gs ≡ 0) → (b : Bool) → eqb g.size 0 ≡ b → Search i found (g ∷ gs) (step i found g b)
    here z true e = none (later (eqb-true g.size 0 e) z)
    here z false e =
        let h : 0 < g.size = ⊎_elim (λ q. absurd (eqb-false g.size 0 e (omega arith))) (λ q. q) (le-or-lt g.size 0) in
        subst (λ (n : ℕ). Search i found (g ∷ gs) (present_if (eqb (g.flags % 2) 1) n)) (omega arith)
        (last 0 (record { there = omega arith; nonempty = h; behind = behind-first z }))

    at : (r : Option ℕ) (b : Bool) → Search (i + 1) (step i found g b) gs r → eqb g.size 0 ≡ b → Search i found (g ∷ gs) r
    at r b (none z) e = here z b e
    at r b (last f p) e =
        subst (λ (n : ℕ). Search i found (g ∷ gs) (present_if (eqb (flags_at f gs % 2) 1) n)) (omega arith)
        (last (suc f) (record { there = omega (arith, p.there); nonempty = p.nonempty; behind = behind-next f p }))

-- a trim removes the last nonempty file, where that is a pad
pub record TailPad (files : List File) (f : ℕ) : Type 0 where
  pub last : Last files f
  pub pad : flags_at f files % 2 ≡ 1

-- it removes none where there is no nonempty file, or the last one is no pad
pub data NoTailPad (files : List File) : Type 0 where
  bare : ((k : ℕ) → size_at k files ≡ 0) → NoTailPad files
  other : (f : ℕ) → Last files f → (flags_at f files % 2 ≡ 1 → ⊥) → NoTailPad files

module _ (files : List File) where
  pub tail-pad : (f : ℕ) → tail_pad files ≡ Some f → TailPad files f
  tail-pad f e = at (tail_pad files) (search-from 0 None files) e
    where
      found : (g : ℕ) → Last files g → (b : Bool) → eqb (flags_at g files % 2) 1 ≡ b → present_if b (0 + g) ≡ Some f → TailPad files f
      found g p true q e =
          let n : g ≡ f = cc (zero-add g) in
          subst (λ (k : ℕ). TailPad files k) n (record { last = p; pad = eqb-true (flags_at g files % 2) 1 q })
      found g p false q e = let z : ◌≡◌ {A = ℕ} 0 1 = cc in absurd (omega arith)

      at : (r : Option ℕ) → Search 0 None files r → r ≡ Some f → TailPad files f
      at r (none z) e = let z : ◌≡◌ {A = ℕ} 0 1 = cc in absurd (omega arith)
      at r (last g p) e = found g p (eqb (flags_at g files % 2) 1) refl e

  pub no-tail-pad : tail_pad files ≡ None → NoTailPad files
  no-tail-pad e = at (tail_pad files) (search-from 0 None files) e
    where
      found : (g : ℕ) → Last files g → (b : Bool) → eqb (flags_at g files % 2) 1 ≡ b → present_if b (0 + g) ≡ None → NoTailPad files
      found g p true q e = let z : ◌≡◌ {A = ℕ} 0 1 = cc in absurd (omega arith)
      found g p false q e = other g p (eqb-false (flags_at g files % 2) 1 q)

      at : (r : Option ℕ) → Search 0 None files r → r ≡ None → NoTailPad files
      at r (none z) e = bare z
      at r (last g p) e = found g p (eqb (flags_at g files % 2) 1) refl e
