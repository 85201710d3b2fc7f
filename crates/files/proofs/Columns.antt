-- The questions of a list, as a loop over its three columns takes them, counted from 0: of offsets and sizes the first, as
-- many as there are files. They rely on the kit's laws of lists that are cut and zipped.
--     questions      all of them
--     all-asked      there are as many as files
--     asked-is       question n: its number, and the items of the three columns at that place
use Rattle.std.proofs.Common.{◌≡◌, ℕ, ◌<◌, ◌≤◌, List, length, get_or, take, ℤ, pos, ap, ◌∙◌, arith}
use Rattle.std.specs.List.{enumerate_from, zip}
use Rattle.std.proofs.lemmas.List.{get_or_default, get_or-take, length-take-le}
use Rattle.std.proofs.lemmas.List.FromFn.{length-enumerate_from, get_or-enumerate_from}
use Rattle.std.proofs.lemmas.Slice.Zip.{length-zip, get_or-zip}

abbrev pub questions : List ℤ → List ℤ → List ℤ → List (ℕ × ((ℤ × ℤ) × ℤ))
questions files offsets sizes = enumerate_from 0 (zip (zip files (take (length files) offsets)) (take (length files) sizes))

pub record Asked (files offsets sizes : List ℤ) (n : ℕ) (q : ℕ × ((ℤ × ℤ) × ℤ)) : Type 0 where
  pub among : n < length files
  pub number : q.0 ≡ n
  pub file : q.1.0.0 ≡ get_or files n (pos 0)
  pub offset : q.1.0.1 ≡ get_or offsets n (pos 0)
  pub size : q.1.1 ≡ get_or sizes n (pos 0)

-- an item of a column's front
front-item : (c : List ℤ) (k n : ℕ) (d : ℤ) {z : ℤ} → k ≤ length c → n < k → z ≡ get_or (take k c) n d → z ≡ get_or c n (pos 0)
front-item c k n d h i e = e ∙ get_or-take k c n d i ∙ get_or_default c n d (pos 0) (omega arith)

module _ (files offsets sizes : List ℤ) (f : length files ≤ length offsets) (g : length files ≤ length sizes) where
  offsets-cut : length (take (length files) offsets) ≡ length files
  offsets-cut = length-take-le (length files) offsets f

  sizes-cut : length (take (length files) sizes) ≡ length files
  sizes-cut = length-take-le (length files) sizes g

  both : length (zip files (take (length files) offsets)) ≡ length files
  both = omega (arith, offsets-cut, length-zip files (take (length files) offsets))

  three : length (zip (zip files (take (length files) offsets)) (take (length files) sizes)) ≡ length files
  three = omega (arith, both, sizes-cut, length-zip (zip files (take (length files) offsets)) (take (length files) sizes))

  pub all-asked : length (questions files offsets sizes) ≡ length files
  all-asked = length-enumerate_from 0 (zip (zip files (take (length files) offsets)) (take (length files) sizes)) ∙ three

  pub asked-is : (n : ℕ) (q : ℕ × ((ℤ × ℤ) × ℤ)) → n < length (questions files offsets sizes) → q ≡ get_or (questions files offsets sizes) n q → Asked files offsets sizes n q
  asked-is n q h e =
      let k : n < length files = omega (arith, all-asked) in
      let counted = e ∙ get_or-enumerate_from 0 (zip (zip files (take (length files) offsets)) (take (length files) sizes)) n q (omega (arith, three)) in
      let all = ap (λ (x : ℕ × ((ℤ × ℤ) × ℤ)). x.1) counted ∙ get_or-zip (zip files (take (length files) offsets)) (take (length files) sizes) n q.1 (omega (arith, both)) (omega (arith, sizes-cut)) in
      let two = ap (λ (x : (ℤ × ℤ) × ℤ). x.0) all ∙ get_or-zip files (take (length files) offsets) n q.1.0 k (omega (arith, offsets-cut)) in
      record {
        among = k;
        number = omega (arith, ap (λ (x : ℕ × ((ℤ × ℤ) × ℤ)). x.0) counted);
        file = ap (λ (x : ℤ × ℤ). x.0) two ∙ get_or_default files n q.1.0.0 (pos 0) k;
        offset = front-item offsets (length files) n q.1.0.1 f k (ap (λ (x : ℤ × ℤ). x.1) two);
        size = front-item sizes (length files) n q.1.1 g k (ap (λ (x : (ℤ × ℤ) × ℤ). x.1) all);
      }
