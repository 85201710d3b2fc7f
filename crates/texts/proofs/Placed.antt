-- Laws of a text area that is parted behind its used part: a text is read from what stands before, and a join is put into what
-- stands behind. They rely on the laws of parts and runs of `lists`.
use Prim.Native.Nat.{ℕ, ◌+◌, ◌-◌, ◌<◌, ◌≤◌, min}
use mathlib.Core.Path.{◌≡◌, refl, sym, ap, ◌∙◌}
use mathlib.Core.Bool.{Bool, true, false}
use mathlib.Core.Logic.{◌⊎◌, inl, inr}
use mathlib.Core.List.{List, ◌++◌}
use native.Mathlib.Omega.{arith}
use lib.Dec.{leb}
use lib.ListN.{length, take, drop, length-drop, take-append-drop}
use lib.Seq.{sets, take_all}
use Rattle.std.specs.Prelude.{Ok, Err, Result}
use Rattle.types.specs.declared.refusal.Refusal.{Refusal}
use Rattle.types.specs.Refusals.{value, refused}
use Rattle.lists.proofs.Orders.{le-or-lt}
use Rattle.lists.proofs.Parts.{drop-take, take-take-min}
use Rattle.lists.proofs.Runs.{sets-drop, sets-past}
use Rattle.path.specs.Join.{appended, Joined, joined_if, joined_says, fits}
use Rattle.tables.specs.declared.span.Span.{Span}
use Rattle.tables.specs.declared.rows.Row.{Row}
use Rattle.tables.specs.Span.{end_of, text_at}
use Rattle.tables.specs.Rows.{row_at, put_row, directory_span}
use Rattle.tables.specs.Model.{Store}
use Rattle.texts.specs.Texts.{storage_with, row_with, is_within, with_own}
use Rattle.texts.specs.private.Parts.{behind_if, joined_behind}
use Rattle.texts.proofs.NewTexts.{own-parts}

-- the area l is parted behind its first u bytes, or at its end
module _ (l : List ℕ) (u m : ℕ) (e : m ≡ min u (length l)) where
  pub text_before : (s : Span) → end_of s ≤ u → text_at (take m l) s ≡ text_at l s
  text_before s h = at (le-or-lt u (length l))
    where
      at : (u ≤ length l) ⊎ (length l < u) → text_at (take m l) s ≡ text_at l s
      at (inl a) =
          let k : min s.len (m - s.at) ≡ s.len = omega arith in
          rw (drop-take s.at m l, take-take-min s.len (m - s.at) (drop s.at l), k)
      at (inr a) = rw (take_all m l (omega arith))

  room-behind : length (drop m l) ≡ length l - u
  room-behind = omega (arith, length-drop m l)

  put-behind : (t : List ℕ) → take m l ++ sets (drop m l) 0 t ≡ sets l u t
  put-behind t = at (le-or-lt u (length l))
    where
      at : (u ≤ length l) ⊎ (length l < u) → take m l ++ sets (drop m l) 0 t ≡ sets l u t
      at (inl a) = let k : m ≡ u = omega arith in rw k (sym (sets-drop l u t a))
      at (inr a) = rw (sets-past t (drop m l) 0 (omega (arith, length-drop m l)), take-append-drop m l, sets-past t l u (omega arith))

  -- a join into what stands behind
  pub join_behind : (t : List ℕ) (r : Result ℕ Refusal) {b : List ℕ} → joined_says r b ≡ joined_if (fits t (drop m l)) t (drop m l)
      → joined_says r (take m l ++ b) ≡ joined_behind l u t
  join_behind t r h =
      ap (λ (j : Joined). let whole : Joined = record { says = j.says; buf = take m l ++ j.buf } in whole) h
      ∙ at (fits t (drop m l))
      ∙ ap (λ (n : ℕ). behind_if (leb (length t) n) l u t) room-behind
    where
      at : (b : Bool) → ◌≡◌ {A = Joined} (record { says = (joined_if b t (drop m l)).says; buf = take m l ++ (joined_if b t (drop m l)).buf }) (behind_if b l u t)
      at true = rw (put-behind t)
      at false = rw (take-append-drop m l)

-- what it says where it has no place, and where it has one
said-none : (fit : Bool) (l t x : List ℕ) (u : ℕ) {k : ℕ} → ◌≡◌ {A = Joined} (record { says = refused k; buf = x }) (behind_if fit l u t) → (fit ≡ false) × (x ≡ l)
said-none true l t x u q = absurd (let p = ap (λ (j : Joined). j.says) q in let z : ◌≡◌ {A = ℕ} 0 1 = cc in omega arith)
said-none false l t x u q = (refl, ap (λ (j : Joined). j.buf) q)

said-some : (fit : Bool) (l t x : List ℕ) (u n : ℕ) → ◌≡◌ {A = Joined} (record { says = value n; buf = x }) (behind_if fit l u t) → (fit ≡ true) × (n ≡ length t) × (x ≡ sets l u t)
said-some true l t x u n q = let p = ap (λ (j : Joined). j.says) q in (refl, cc, ap (λ (j : Joined). j.buf) q)
said-some false l t x u n q = absurd (let p = ap (λ (j : Joined). j.says) q in let z : ◌≡◌ {A = ℕ} 0 1 = cc in omega arith)

-- of link i, whose own path is joined behind the used part, where its parts lie
module _ (s : Store) (i : ℕ) where
  abbrev row : Row
  row = row_at s.rows i

  abbrev branch : Span
  branch = directory_span s.dirs row

  abbrev new : List ℕ
  new = appended (text_at s.text branch) (text_at s.text row.name)

  abbrev fit : Bool
  fit = leb (length new) (length s.text - s.fs.text_len)

  abbrev Says : Result ℕ Refusal → List ℕ → Type 0
  Says r x = joined_says r x ≡ joined_behind s.text s.fs.text_len new

  module _ (b : true ≡ is_within s.fs.text_len branch) (n : true ≡ is_within s.fs.text_len row.name) where
    pub own_short : (e : Refusal) {x : List ℕ} → Says (Err e) x
        → ◌≡◌ {A = Store} (record { fs = s.fs; rows = s.rows; roots = s.roots; firsts = s.firsts; dirs = s.dirs; text = x }) (with_own s i)
    own_short e {x} q =
        let said = said-none fit s.text new x s.fs.text_len q in
        rw (own-parts s i, ← b, ← n, said.0, said.1)

    pub own_written : (k : ℕ) {x rows : List ℕ} → Says (Ok k) x → rows ≡ put_row s.rows i (row_with row row.name (record { at = s.fs.text_len; len = k }))
        → ◌≡◌ {A = Store} (record { fs = storage_with s.fs s.fs.name (s.fs.text_len + k); rows = rows; roots = s.roots; firsts = s.firsts; dirs = s.dirs; text = x }) (with_own s i)
    own_written k {x} q r =
        let said = said-some fit s.text new x s.fs.text_len k q in
        rw (own-parts s i, ← b, ← n, r, said.0, said.1, said.2)
