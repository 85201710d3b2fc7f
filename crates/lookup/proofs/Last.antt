-- Laws of a scan from the last file to the first: what `find` says of a range that is gone through from its end, and
-- what the file is that it finds. They rely on the kit's definitions of iterators and on proofs/Rows.antt.
use Prim.Native.Nat.{ℕ, zero, suc, ◌+◌, ◌-◌, ◌<◌, ◌≤◌}
use mathlib.Core.Path.{◌≡◌, refl, sym, ap, subst, ◌∙◌}
use mathlib.Core.Bool.{Bool, true, false, cond}
use mathlib.Core.List.{List, [], ◌∷◌}
use mathlib.Core.Logic.{◌⊎◌, inl, inr}
use native.Mathlib.Omega.{arith}
use denote.Ref.{Bor}
use denote.Param.Members.{Mut}
use Rattle.std.specs.Prelude.{Option, Some, None, MatchOption, ⊤}
use Rattle.std.specs.List.{FoldsTo}
use Rattle.std.specs.Iterator.{Yields, YieldsThen}
use Rattle.std.specs.Fn.{CalledAt}
use Rattle.std.specs.Iterator.Adapters.{rev_source, rev_steps}
use Rattle.std.specs.declared.iter.Rev.{Rev}
use Rattle.std.specs.declared.ops.Range.{Range}
use Rattle.lists.specs.Lists.{equal}
use Rattle.lists.proofs.Orders.{le-or-lt}
use Rattle.tables.specs.Rows.{row_at}
use Rattle.tables.specs.Model.{Store}
use Rattle.lookup.specs.Lookup.{own_path, or_here, file_at, is_flagged, seen_as, entries_of}
use Rattle.lookup.specs.declared.set.Seen.TheVariants.{Nothing, RegularFile, FlaggedLink}
use Rattle.lookup.specs.private.Rows.{entry_at, entries_from}
use Rattle.lookup.proofs.Rows.{flagged-at, entries-all}

-- of the numbers from i up to n, this is the last that passes, or none does
abbrev pub IsLast : (ℕ → Type 0) → (ℕ → Type 0) → ℕ → ℕ → Option ℕ → Type 0
IsLast Yes No i n r = MatchOption r ((k : ℕ) → i ≤ k → k < n → No k) (λ j. (i ≤ j) × (j < n) × Yes j × ((k : ℕ) → j < k → k < n → No k))

-- ---- a range from its end

-- one number from a range's end
abbrev pub range_back : Range ℕ → Option ℕ → Range ℕ → Type 0
range_back s r t = (t.start ≡ s.start) × MatchOption r ((s.end - s.start ≡ 0) × (t.end ≡ s.end)) (λ x. (0 < s.end - s.start) × (x ≡ t.end) × (s.end ≡ t.end + 1))

module _ {F : Type 0} {g : Mut F (Bor ℕ × Unit {0}) Bool} (f : F) (Yes No : ℕ → Type 0)
    (yes' : (x : ℕ) (q : F) → CalledAt g f x true q → Yes x) (no' : (x : ℕ) (q : F) → CalledAt g f x false q → (q ≡ f) × No x) where
  -- one number more at the end, which does not pass
  more : (i m n : ℕ) (r : Option ℕ) → n ≡ m + 1 → No m → IsLast Yes No i m r → IsLast Yes No i n r
  more i m n r e z h = by r h
    where
      at : (k : ℕ) → k < n → (k < m → No k) → (m ≤ k) ⊎ (k < m) → No k
      at k l h (inl a) = let q : k ≡ m = omega arith in subst No (sym q) z
      at k l h (inr b) = h b

      by : (r : Option ℕ) → IsLast Yes No i m r → IsLast Yes No i n r
      by None h = λ k a l. at k l (h k a) (le-or-lt m k)
      by (Some j) h = (h.0, omega (arith, h.1), h.2, λ k a l. at k l (h.3 k a) (le-or-lt m k))

  -- where it stops
  stop : (s t : Range ℕ) (r : Option ℕ) → range_back s r t → MatchOption r ⊤ (λ x. (h : F) × CalledAt g f x true h) → IsLast Yes No s.start s.end r
  stop s t None e m = λ k a l. absurd (omega (arith, e.1.0))
  stop s t (Some x) e m = (omega (arith, e), omega (arith, e), yes' x m.0 m.1, λ k a l. absurd (omega (arith, e)))

  along : (xs : List ℕ) (s t u : Rev (Range ℕ)) (j : F) (r : Option ℕ) → Yields (rev_steps range_back) s xs t → rev_steps range_back t r u
      → FoldsTo (λ p x q. CalledAt g p x false q) f xs j → MatchOption r ⊤ (λ x. (h : F) × CalledAt g j x true h)
      → IsLast Yes No (rev_source s).start (rev_source s).end r
  along [] s t u j r y e k m =
      stop (rev_source s) (rev_source u) r (subst (λ w. rev_steps range_back w r u) (sym y) e) (subst (λ w. MatchOption r ⊤ (λ x. (h : F) × CalledAt g w x true h)) (sym k) m)
  along (x ∷ xs) s t u j r y e k m =
      let c = no' x k.0 k.1 in
      let w = y.1 in
      let rest = along xs y.0 t u j r y.2 e (subst (λ p. FoldsTo (λ p x q. CalledAt g p x false q) p xs j) c.0 k.2) m in
      more (rev_source s).start (rev_source y.0).end (rev_source s).end r w.1.2 (subst No w.1.1 c.1) (subst (λ i. IsLast Yes No i (rev_source y.0).end r) w.0 rest)

  -- from the clause `ran` of `find`
  pub last_from_find : (i n : ℕ) (s u : Rev (Range ℕ)) (r : Option ℕ) → rev_source s ≡ record { start = i; end = n }
      → (xs : List ℕ) × (j : F) × YieldsThen (rev_steps range_back) s xs r u × FoldsTo (λ p x q. CalledAt g p x false q) f xs j × MatchOption r ⊤ (λ x. (h : F) × CalledAt g j x true h)
      → IsLast Yes No i n r
  last_from_find i n s u r e d = subst (λ (t : Range ℕ). IsLast Yes No t.start t.end r) e (along d.0 s d.2.0 u d.1 r d.2.1 d.2.2 d.3 d.4)

-- ---- the last file at a path

module _ (s : Store) (p : List ℕ) where
  -- file i is at p or not
  abbrev pub IsAt : Bool → ℕ → Type 0
  IsAt b i = equal (own_path (entry_at s i)) p ≡ b

  -- what the one is that is found
  here : (b l : Bool) → l ≡ b → cond l FlaggedLink RegularFile ≡ or_here Nothing true b
  here true l e = rw e
  here false l e = rw e

  stays : (l a b : Bool) → cond l FlaggedLink RegularFile ≡ or_here (cond l FlaggedLink RegularFile) a b
  stays true a b = refl
  stays false a b = refl

  from : (m i n : ℕ) (r : Option ℕ) → n ≡ i + m → IsLast (IsAt true) (IsAt false) i n r → seen_as s.rows r ≡ file_at (entries_from s m i) p
  unfolding entries_from
  from zero i n None e h = refl
  from zero i n (Some j) e h = absurd (omega (arith, h))
  from (suc m) i n None e h = rw (h i (omega arith) (omega arith), ← from m (i + 1) n None (omega arith) (λ k a l. h k (omega arith) l)) refl
  from (suc m) i n (Some j) e h = at (le-or-lt j i) (from m (i + 1) n)
    where
      at : (j ≤ i) ⊎ (i < j) → ((r : Option ℕ) → n ≡ i + 1 + m → IsLast (IsAt true) (IsAt false) (i + 1) n r → seen_as s.rows r ≡ file_at (entries_from s m (i + 1)) p) → seen_as s.rows (Some j) ≡ or_here (file_at (entries_from s m (i + 1)) p) (equal (own_path (entry_at s i)) p) (entry_at s i).flagged
      at (inl a) rest =
          let q : j ≡ i = omega (arith, h.0) in
          let own : IsAt true i = subst (IsAt true) q h.2 in
          let none = rest None (omega arith) (λ k b l. h.3 k (omega arith) l) in
          rw (q, own, ← none) (here (entry_at s i).flagged (is_flagged (row_at s.rows i).flags) (flagged-at s i))
      at (inr b) rest =
          let later = rest (Some j) (omega arith) (omega arith, h.1, h.2, h.3) in
          rw (← later) (stays (is_flagged (row_at s.rows j).flags) (equal (own_path (entry_at s i)) p) (entry_at s i).flagged)

  pub last-stands : (r : Option ℕ) → IsLast (IsAt true) (IsAt false) 0 s.fs.num_files r → seen_as s.rows r ≡ file_at (entries_of s) p
  last-stands r h = from s.fs.num_files 0 s.fs.num_files r (omega arith) h ∙ ap (λ l. file_at l p) (entries-all s)
