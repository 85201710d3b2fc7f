-- Laws of counting the names that a list gives, one number with its length after another. They rely on the laws of notes.
--     pairs, pair-is                 the numbers with their lengths, counted from 0
--     Counted                        what is counted and what the other names count give the whole
--     counts-is                      whether a number counts, as its note tells it
--     counted_more, counted_same     after one name more: it counts, or not
use Prim.Native.Nat.{ℕ, zero, suc, ◌+◌, ◌≤◌, ◌<◌}
use mathlib.Core.Path.{◌≡◌, refl, sym, ap, ◌∙◌}
use mathlib.Core.Bool.{Bool, true, false, cond, ◌&&◌}
use mathlib.Core.List.{List, [], ◌∷◌}
use native.Mathlib.Nat.{add-zero}
use native.Mathlib.Omega.{arith}
use native.Mathlib.Numerals.{add-one}
use borrow.Author.Tests.{eq-eqb}
use lib.Dec.{eqb}
use lib.IntN.{ℤ, pos}
use lib.ListN.{length, get_or, take, drop, length-append}
use lib.Seq.{drop-cons, drop-drop, get_or-drop}
use Rattle.std.specs.List.{enumerate_from, zip}
use Rattle.std.proofs.lemmas.List.{get_or_default}
use Rattle.std.proofs.lemmas.List.FromFn.{length-enumerate_from, get_or-enumerate_from}
use Rattle.std.proofs.lemmas.Slice.Zip.{length-zip, get_or-zip}
use Rattle.lists.specs.Lists.{part_of}
use Rattle.lists.proofs.Parts.{part_length}
use Rattle.rules.specs.Bounds.{clamped_of, is_below}
use Rattle.renames.specs.Renames.{Renamed, texts_of}
use Rattle.imports.specs.Imports.{full_path}
use Rattle.imports.specs.private.Importing.{is_of, counts, renames_given}
use Rattle.imports.specs.private.Merging.{Noted}
use Rattle.imports.proofs.Noting.{last-is}

abbrev pub pairs : List ℤ → List ℕ → List (ℕ × (ℤ × ℕ))
pairs zs ls = enumerate_from 0 (zip zs ls)

-- the n-th of them
pub record Pair (zs : List ℤ) (ls : List ℕ) (n : ℕ) (q : ℕ × (ℤ × ℕ)) : Type 0 where
  pub among : n < length zs
  pub place : q.0 ≡ n
  pub number : q.1.0 ≡ get_or zs n (pos 0)
  pub size : q.1.1 ≡ get_or ls n 0

pub pair-is : (zs : List ℤ) (ls : List ℕ) (n : ℕ) (q : ℕ × (ℤ × ℕ)) → length zs ≤ length ls → n < length (pairs zs ls) → q ≡ get_or (pairs zs ls) n q → Pair zs ls n q
pair-is zs ls n q h b e =
    let k : n < length zs = omega (arith, length-enumerate_from 0 (zip zs ls), length-zip zs ls) in
    let counted = e ∙ get_or-enumerate_from 0 (zip zs ls) n q (omega (arith, length-zip zs ls)) in
    let both = ap (λ (x : ℕ × (ℤ × ℕ)). x.1) counted ∙ get_or-zip zs ls n q.1 k (omega arith) in
    record {
      among = k;
      place = omega (arith, ap (λ (x : ℕ × (ℤ × ℕ)). x.0) counted);
      number = ap (λ (x : ℤ × ℕ). x.0) both ∙ get_or_default zs n q.1.0 (pos 0) k;
      size = ap (λ (x : ℤ × ℕ). x.1) both ∙ get_or_default ls n q.1.1 0 (omega arith);
    }

-- n names came, and end at `at`
pub record Counted (files : ℕ) (zs : List ℤ) (ls names : List ℕ) (n at count bytes : ℕ) : Type 0 where
  pub within : at ≤ length names
  pub few : count ≤ n
  pub short : bytes ≤ at
  pub counted : count + length (renames_given files (drop n zs) (drop n ls) (drop at names)) ≡ length (renames_given files zs ls names)
  pub summed : bytes + length (texts_of (renames_given files (drop n zs) (drop n ls) (drop at names))) ≡ length (texts_of (renames_given files zs ls names))

drop-taken : (n : ℕ) (t : List ℕ) → drop (length (take n t)) t ≡ drop n t
drop-taken zero t = refl
drop-taken (suc n) [] = refl
drop-taken (suc n) (x ∷ t) = drop-taken n t

module _ (files : ℕ) (zs : List ℤ) (n : ℕ) (h : n < length zs) where
  abbrev z : ℤ
  z = get_or zs n (pos 0)

  pub counts-is : (l : List ℕ) → Noted files zs l → (is_below files z && eqb (get_or l (clamped_of z) 0) (n + 1)) ≡ counts files z (drop (n + 1) zs)
  counts-is l noted = at (is_below files z) refl
    where
      at : (b : Bool) → is_below files z ≡ b → (is_below files z && eqb (get_or l (clamped_of z) 0) (n + 1)) ≡ counts files z (drop (n + 1) zs)
      at true q =
          let own : is_of files (clamped_of z) z ≡ true = rw (q, eq-eqb (clamped_of z) (clamped_of z) refl) in
          rw q (last-is files (clamped_of z) zs l noted n h own)
      at false q = rw q

  module _ (ls names : List ℕ) (at : ℕ) where
    abbrev name : List ℕ
    name = part_of names at (get_or ls n 0)

    abbrev rest : List Renamed
    rest = renames_given files (drop (n + 1) zs) (drop (n + 1) ls) (drop (at + length name) names)

    given-turn : renames_given files (drop n zs) (drop n ls) (drop at names)
        ≡ cond (counts files z (drop (n + 1) zs)) (full_path (record { file = z; name = name }) ∷ rest) rest
    given-turn =
        let f : get_or (drop n ls) 0 0 ≡ get_or ls n 0 = get_or-drop n ls 0 0 ∙ rw (add-zero n) in
        let g : drop 1 (drop n ls) ≡ drop (n + 1) ls = drop-drop 1 n ls in
        let k : drop n zs ≡ z ∷ drop (n + 1) zs = drop-cons zs n (pos 0) h ∙ rw (add-one n) in
        let d : drop (get_or ls n 0) (drop at names) ≡ drop (at + length name) names = sym (drop-taken (get_or ls n 0) (drop at names)) ∙ drop-drop (length name) at names in
        rw (k, f, g, d)

    module _ {count bytes : ℕ} (c : Counted files zs ls names n at count bytes) where
      pub counted_more : counts files z (drop (n + 1) zs) ≡ true → Counted files zs ls names (n + 1) (at + length name) (count + 1) (bytes + length name)
      counted_more q =
          let t : renames_given files (drop n zs) (drop n ls) (drop at names) ≡ full_path (record { file = z; name = name }) ∷ rest = given-turn ∙ rw q in
          record {
            within = omega (arith, c.within, part_length names at (get_or ls n 0));
            few = omega (arith, c.few);
            short = omega (arith, c.short);
            counted = omega (arith, c.counted, ap length t);
            summed = omega (arith, c.summed, ap (λ (l : List Renamed). length (texts_of l)) t, length-append name (texts_of rest));
          }

      pub counted_same : counts files z (drop (n + 1) zs) ≡ false → Counted files zs ls names (n + 1) (at + length name) count bytes
      counted_same q =
          let t : renames_given files (drop n zs) (drop n ls) (drop at names) ≡ rest = given-turn ∙ rw q in
          record {
            within = omega (arith, c.within, part_length names at (get_or ls n 0));
            few = omega (arith, c.few);
            short = omega (arith, c.short);
            counted = omega (arith, c.counted, ap length t);
            summed = omega (arith, c.summed, ap (λ (l : List Renamed). length (texts_of l)) t);
          }
