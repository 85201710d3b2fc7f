-- Laws of the comparison of two sets: of two files by what they have in common, and of all files as an iterator's `all` asks for
-- them. They rely on the definitions of specs/Compatible.antt.
use Prim.Native.Nat.{ℕ, zero, suc, ◌+◌}
use mathlib.Core.Path.{◌≡◌, refl, sym, ◌∙◌}
use mathlib.Core.Bool.{Bool, true, false}
use borrow.Author.Tests.{eq-eqb, ne_eqb}
use Rattle.std.specs.List.{list_all, range_with_len}
use Rattle.lists.specs.Lists.{equal}
use Rattle.tables.specs.declared.rows.Row.{Row}
use Rattle.tables.specs.Rows.{row_at, has}
use Rattle.compatible.specs.Compatible.{NamedSet, path_of, link_of, same_named, same_file, same_from}

-- what no proof here needs, and docs/PORT.md names: two files of one size, by path, offset, and the link where it is
-- flagged; `t` is what a call said of their paths
module _ (a b : NamedSet) (r q : Row) (e : r.size ≡ q.size) (t : Bool) (h : t ≡ equal (path_of a r) (path_of b q)) where
  pub other_path : t ≡ false → false ≡ same_named a b r q
  other_path f = rw (eq-eqb r.size q.size e, ← h, f)

  module _ (f : t ≡ true) where
    path-same : equal (path_of a r) (path_of b q) ≡ true
    path-same = sym h ∙ f

    pub other_offset : (r.offset ≡ q.offset → ⊥) → false ≡ same_named a b r q
    other_offset g = rw (eq-eqb r.size q.size e, path-same, ne_eqb r.offset q.offset g)

    module _ (g : r.offset ≡ q.offset) (l : Bool) (k : l ≡ has r.flags 8) where
      pub by-link : l ≡ true → (s : Bool) → s ≡ equal (link_of a r) (link_of b q) → s ≡ same_named a b r q
      by-link w s v = v ∙ rw (eq-eqb r.size q.size e, path-same, eq-eqb r.offset q.offset g, sym k ∙ w)

      pub no-link : l ≡ false → true ≡ same_named a b r q
      no-link w = rw (eq-eqb r.size q.size e, path-same, eq-eqb r.offset q.offset g, sym k ∙ w)

-- all files, by number
module _ (a b : NamedSet) where
  pub all-files : (n k : ℕ) → list_all (λ i. same_file a b (row_at a.rows i) (row_at b.rows i)) (range_with_len k n) ≡ same_from n k a b
  unfolding same_from
  all-files zero k = refl
  all-files (suc n) k = rw (all-files n (k + 1))
