-- `names::compose::put_kept` meets its contract: after each step the buffer holds the parts so far, composed.
use Rattle.std.proofs.Common.{◌≡◌, ◌≤◌, ℕ, false, List, length, take, refl, arith}
use Rattle.std.proofs.lemmas.List.Edits.{sets}
use Rattle.path.specs.Join.{is_alone, appended}
use Rattle.names.specs.declared.kept.KeptParts.{KeptParts}
use Rattle.names.specs.private.Parts.{composed}
use Rattle.names.proofs.Composed.{Stands, longer, kept-appended, fits-there, appended-there}
use Rattle.names.proofs.compose.put_kept.Goals as goal

-- a buffer with room for the composed path
module _ (p : KeptParts) (buf : List ℕ) (h : length (composed p) ≤ length buf) where
  abbrev two : List ℕ
  two = appended p.first.now p.second.now

  abbrev three : List ℕ
  three = appended two p.third.now

  kept2 : is_alone two ≡ false
  kept2 = kept-appended p.first.now p.second.now p.kept

  kept3 : is_alone three ≡ false
  kept3 = kept-appended two p.third.now kept2

  short3 : length three ≤ length buf
  short3 = omega (arith, h, longer three p.last.now kept3)

  short2 : length two ≤ length buf
  short2 = omega (arith, short3, longer two p.third.now kept2)

  -- the first part is written as `x`, then each part in turn as `y`, `z` and `w`
  module _ (x : List ℕ) (e : x ≡ sets buf 0 p.first.now) where
    first : Stands buf p.first.now (length p.first.now) x
    first = record { count = refl; text = e }

    fits2 : (length p.first.now ≤ length x) × (length (appended (take (length p.first.now) x) p.second.now) ≤ length x)
    fits2 = fits-there p.first.now p.second.now buf x (length p.first.now) p.kept first short2

    module _ (m : ℕ) (y : List ℕ) (f : m ≡ length (appended (take (length p.first.now) x) p.second.now)) (g : y ≡ sets x 0 (appended (take (length p.first.now) x) p.second.now)) where
      second : Stands buf two m y
      second = appended-there p.first.now p.second.now buf x (length p.first.now) p.kept first short2 m y f g

      fits3 : (m ≤ length y) × (length (appended (take m y) p.third.now) ≤ length y)
      fits3 = fits-there two p.third.now buf y m kept2 second short3

      module _ (n : ℕ) (z : List ℕ) (i : n ≡ length (appended (take m y) p.third.now)) (j : z ≡ sets y 0 (appended (take m y) p.third.now)) where
        third : Stands buf three n z
        third = appended-there two p.third.now buf y m kept2 second short3 n z i j

        fits4 : (n ≤ length z) × (length (appended (take n z) p.last.now) ≤ length z)
        fits4 = fits-there three p.last.now buf z n kept3 third h

        whole : (r : ℕ) (w : List ℕ) → r ≡ length (appended (take n z) p.last.now) → w ≡ sets z 0 (appended (take n z) p.last.now) → Stands buf (composed p) r w
        whole r w k l = appended-there three p.last.now buf z n kept3 third h r w k l

pub grown-used2-requires : goal.grown-used2-requires
grown-used2-requires c = fits2 c.args.parts c.args.buf.now c.requires _ c.copy_after.ensures

pub grown-used3-requires : goal.grown-used3-requires
grown-used3-requires c =
    fits3 c.args.parts c.args.buf.now c.requires _ c.copy_after.ensures _ _ c.grown-used2.ensures.value c.grown-used2.ensures.buf_after

pub grown-requires : goal.grown-requires
grown-requires c =
    fits4 c.args.parts c.args.buf.now c.requires _ c.copy_after.ensures _ _ c.grown-used2.ensures.value c.grown-used2.ensures.buf_after
    _ _ c.grown-used3.ensures.value c.grown-used3.ensures.buf_after

pub returns : goal.returns
returns c =
    let w = whole c.args.parts c.args.buf.now c.requires _ c.copy_after.ensures _ _ c.grown-used2.ensures.value c.grown-used2.ensures.buf_after
    _ _ c.grown-used3.ensures.value c.grown-used3.ensures.buf_after _ _ c.grown.ensures.value c.grown.ensures.buf_after in
    record { value = w.count; buf_after = w.text }
