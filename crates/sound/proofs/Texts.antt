-- Where texts lie, and the text that a set needs: on tables in order it is the used part of the text area. Relies on the laws
-- of parts of `lists`.
use mathlib.Core.Path.{◌≡◌, refl, sym, ap, ◌∙◌}
use mathlib.Core.Bool.{Bool, true, false}
use mathlib.Core.List.{List}
use Prim.Native.Nat.{ℕ, ◌≤◌, ◌<◌}
use native.Mathlib.Omega.{arith}
use lib.Dec.{eqb}
use lib.ListN.{length}
use borrow.Author.Tests.{lt-ltb, eqb-false}
use Rattle.lists.proofs.Parts.{part-length-within}
use Rattle.tables.specs.declared.span.Span.{Span}
use Rattle.tables.specs.declared.rows.Row.{Row}
use Rattle.tables.specs.Span.{text_at}
use Rattle.tables.specs.Rows.{row_at, dir_at, has}
use Rattle.tables.specs.Model.{Store, stored, present_if, directory_text, directory_of, file_of, view_of}
use Rattle.additions.specs.Addition.{link_length, file_text, text_of}
use Rattle.sound.specs.Sound.{TextId, set_name, dir_name, file_name, link_text, span_of, text_at_row, Sound}
use Rattle.sound.proofs.Common.{sum_same, sum-tabled}

link-length : (b : Bool) (t : List ℕ) → (b ≡ false → length t ≡ 0) → link_length (present_if b t) ≡ length t
link-length true t e = refl
link-length false t e = sym (e refl)

module _ (s : Store) where
  -- where the texts of a row lie
  pub dir-span : (k : ℕ) → k < s.fs.num_paths → span_of s (dir_name k) ≡ dir_at s.dirs k
  dir-span k h = rw (lt-ltb k s.fs.num_paths h)

  pub name-span : (k : ℕ) → k < s.fs.num_files → span_of s (file_name k) ≡ (row_at s.rows k).name
  name-span k h = rw (lt-ltb k s.fs.num_files h)

  pub link-span : (k : ℕ) → k < s.fs.num_files → span_of s (link_text k) ≡ (row_at s.rows k).link
  link-span k h = rw (lt-ltb k s.fs.num_files h)

-- where the directories read the same, a row whose directory is there has the same one
pub directory-same : (s t : Store) → ((k : ℕ) → k < s.fs.num_paths → directory_text t k ≡ directory_text s k) → (r : Row)
    → (r.path_index < 1073741822 → r.path_index < s.fs.num_paths) → r.path_index ≤ 1073741823 → directory_of t r ≡ directory_of s r
directory-same s t same r placed indexed = at (eqb r.path_index 1073741823) refl
  where
    below : (i : ℕ) → i ≤ 1073741823 → (i ≡ 1073741823 → ⊥) → (i ≡ 1073741822 → ⊥) → i < 1073741822
    below i h p q = omega arith

    next : (b : Bool) → eqb r.path_index 1073741822 ≡ b → eqb r.path_index 1073741823 ≡ false → directory_of t r ≡ directory_of s r
    next true f e = rw (e, f)
    next false f e =
        rw (e, f)
        (ap (λ (d : List ℕ). stored d (has r.flags 32)) (same r.path_index (placed (below _ indexed (eqb-false _ _ e) (eqb-false _ _ f)))))

    at : (b : Bool) → eqb r.path_index 1073741823 ≡ b → directory_of t r ≡ directory_of s r
    at true e = rw e
    at false e = next (eqb r.path_index 1073741822) refl e

module _ (s : Store) (ok : Sound s) where
  -- each text is as long as its span says
  pub text-length : (p : TextId) → length (text_at s.text (span_of s p)) ≡ (span_of s p).len
  text-length p =
      part-length-within s.text (span_of s p).at (span_of s p).len (omega (arith, ok.within p, ok.text-holds))

  dir-length : (k : ℕ) → k < s.fs.num_paths → length (directory_text s k) ≡ (span_of s (dir_name k)).len
  dir-length k h = ap (λ (x : Span). length (text_at s.text x)) (sym (dir-span s k h)) ∙ text-length (dir_name k)

  name-length : (k : ℕ) → k < s.fs.num_files → length (text_at s.text (row_at s.rows k).name) ≡ (span_of s (file_name k)).len
  name-length k h = ap (λ (x : Span). length (text_at s.text x)) (sym (name-span s k h)) ∙ text-length (file_name k)

  link-text-length : (k : ℕ) → k < s.fs.num_files → length (text_at s.text (row_at s.rows k).link) ≡ (span_of s (link_text k)).len
  link-text-length k h = ap (λ (x : Span). length (text_at s.text x)) (sym (link-span s k h)) ∙ text-length (link_text k)

  file-length : (k : ℕ) → k < s.fs.num_files → file_text (file_of s k) ≡ text_at_row s k
  file-length k h =
      omega (arith, name-length k h, link-text-length k h, link-length (has (row_at s.rows k).flags 16) (text_at s.text (row_at s.rows k).link) none)
    where
      none : has (row_at s.rows k).flags 16 ≡ false → length (text_at s.text (row_at s.rows k).link) ≡ 0
      none e = link-text-length k h ∙ ap (λ (x : Span). x.len) (link-span s k h) ∙ ok.unlinked k h e

  pub text-is : s.fs.text_len ≡ text_of (view_of s)
  text-is =
      omega (
        arith,
        ok.full,
        text-length set_name,
        sum-tabled length s.fs.num_paths (directory_text s),
        sum_same s.fs.num_paths (λ k. length (directory_text s k)) (λ k. (span_of s (dir_name k)).len) dir-length,
        sum-tabled file_text s.fs.num_files (file_of s),
        sum_same s.fs.num_files (λ k. file_text (file_of s k)) (text_at_row s) file-length,
      )
