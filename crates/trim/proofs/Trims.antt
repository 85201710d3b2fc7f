-- Laws of a trim: the search for the pad, which from the back on the rows finds what `tail_pad` finds on what the tables
-- mean; what the removal of a file leaves; and the outcomes. They rely on the laws of `tabled`.
use Rattle.std.specs.Prelude.{Option, Some, None}
use Rattle.std.specs.Option.{option_map}
use Rattle.std.specs.List.{find}
use Rattle.std.specs.Iterator.{AlwaysYields}
use Rattle.std.specs.declared.ops.Range.{Range}
use Rattle.std.specs.Range.{range_steps_back}
use Rattle.std.proofs.lemmas.Iterator.{YieldsList}
use Prim.Native.Nat.{ℕ, zero, suc, ◌+◌, ◌-◌, ◌*◌, ◌/◌, ◌%◌, ◌<◌, ◌≤◌}
use mathlib.Core.Path.{◌≡◌, refl, ap, ◌∙◌}
use Rattle.std.specs.Bool.{then_some}
use mathlib.Core.Bool.{Bool, true, false, cond}
use mathlib.Core.List.{List, [], ◌∷◌, ◌++◌}
use native.Mathlib.Nat.{zero-add, add-zero}
use native.Mathlib.Omega.{arith}
use lib.Dec.{eqb, ltb}
use lib.ListN.{length, take, length-take}
use lib.Seq.{get_or-take}
use borrow.Author.Tests.{lt-ltb, ne_eqb}
use Rattle.tables.proofs.Words.{row-ext}
use Rattle.tables.proofs.Tabled.{length-tabled, tabled-more}
use Rattle.types.specs.Refusals.{value}
use Rattle.tables.specs.declared.rows.Row.{Row}
use Rattle.tables.specs.Rows.{row_at, has}
use Rattle.tables.specs.Model.{present_if, File, Store, tabled, file_of}
use Rattle.rules.specs.Bounds.{bad_length}
use Rattle.trim.specs.Removal.{store_trimmed, trimmed_by, trim_stored}
use Rattle.change.specs.Changes.{answering}
use Rattle.tables.specs.declared.storage.FileStorage.{FileStorage}
use Rattle.change.specs.declared.rooms.Rooms.{Rooms}
use Rattle.change.specs.Rooms.{holds, holds_in, rooms_of}
use Rattle.change.proofs.Held.{held}
use Rattle.trim.specs.Trim.{tail_pad_from, tail_pad}
use Rattle.trim.specs.private.Search.{tail_pad_in}

-- one more file, behind the others
tail-pad-more : (i : ℕ) (found : Option ℕ) (fs : List File) (g : File)
    → tail_pad_from i found (fs ++ (g ∷ [])) ≡ cond (eqb g.size 0) (tail_pad_from i found fs) (present_if (eqb (g.flags % 2) 1) (i + length fs))
tail-pad-more i found [] g = rw (add-zero i)
tail-pad-more i found (f ∷ fs) g =
    let n : i + 1 + length fs ≡ i + suc (length fs) = omega arith in
    tail-pad-more (i + 1) (cond (eqb f.size 0) found (present_if (eqb (f.flags % 2) 1) i)) fs g
    ∙ ap (λ (k : ℕ). cond (eqb g.size 0) (tail_pad_from i found (f ∷ fs)) (present_if (eqb (g.flags % 2) 1) k)) n

-- the flags that the model keeps have the row's pad flag
pad-kept : (flags : ℕ) → flags % 16 % 2 ≡ flags / 1 % 2
pad-kept flags = omega arith

-- the search on the rows is that on the files
pub tail-pad-rows : (s : Store) (n : ℕ) → tail_pad (tabled n (file_of s)) ≡ tail_pad_in s.rows n
unfolding tabled tail_pad_in
tail-pad-rows s zero = refl
tail-pad-rows s (suc n) =
    let more = ap tail_pad (tabled-more n (file_of s)) ∙ tail-pad-more 0 None (tabled n (file_of s)) (file_of s n) in
    more ∙ rw (tail-pad-rows s n, pad-kept (row_at s.rows n).flags, length-tabled n (file_of s), zero-add n)

-- the numbers below n, the last first, and a range from the back on
abbrev down : ℕ → List ℕ
down zero = []
down (suc n) = n ∷ down n

abbrev back : Range ℕ → Option ℕ → Range ℕ → Type 0
back = range_steps_back (λ a b. b - a) (λ a b. b ≡ a + 1)

down_gives : (n : ℕ) (s : Range ℕ) → s.start ≡ 0 → s.end ≡ n → AlwaysYields back (λ x. x) s (down n)
down_gives zero s a e = λ x t p. absurd (omega (arith, p.1.0))
down_gives (suc n) s a e = (
  (λ t p. absurd (omega (arith, p.1.0))),
  λ x t p. (omega (arith, p.1.1, p.1.2), down_gives n t (p.0 ∙ a) (omega (arith, p.1.2))),
)

pub YieldsList-from_back : (n : ℕ) → YieldsList back (λ x. x) (record { start = 0; end = n }) (down n)
YieldsList-from_back n = record { runs = down_gives n (record { start = 0; end = n }) refl refl }

-- the search on the rows looks at them from the last on
module _ (rows : List ℕ) where
  abbrev pub has_bytes : ℕ → Bool
  has_bytes i = ltb 0 (row_at rows i).size

  abbrev pad_at : Option ℕ → Option ℕ
  pad_at None = None
  pad_at (Some i) = present_if (has (row_at rows i).flags 1) i

  down_found : (n : ℕ) → pad_at (find has_bytes (down n)) ≡ tail_pad_in rows n
  unfolding tail_pad_in
  down_found zero = refl
  down_found (suc n) = by (row_at rows n).size (down_found n)
    where
      by : (size : ℕ) → pad_at (find has_bytes (down n)) ≡ tail_pad_in rows n
          → pad_at (cond (ltb 0 size) (Some n) (find has_bytes (down n))) ≡ cond (eqb size 0) (tail_pad_in rows n) (present_if (has (row_at rows n).flags 1) n)
      by zero e = e
      by (suc m) e = rw (lt-ltb 0 (suc m) (omega arith), ne_eqb (suc m) 0 (λ z. omega arith))

  pub last_found : (n : ℕ) (r : Option ℕ) {o : Option ℕ} → option_map (λ (k : ℕ). k) r ≡ find has_bytes (down n)
      → (r ≡ None → o ≡ None) → ((i : ℕ) → r ≡ Some i → o ≡ then_some (has (row_at rows i).flags 1) i) → o ≡ tail_pad_in rows n
  last_found n None e f g = f refl ∙ ap pad_at e ∙ down_found n
  last_found n (Some i) e f g = g i refl ∙ by (has (row_at rows i).flags 1) ∙ ap pad_at e ∙ down_found n
    where
      by : (t : Bool) → then_some t i ≡ present_if t i
      by true = refl
      by false = refl

-- what is found is one of the rows
pub found_below : (rows : List ℕ) (n f : ℕ) → tail_pad_in rows n ≡ Some f → f < n
unfolding tail_pad_in
found_below rows zero f e = absurd (let z : ◌≡◌ {A = ℕ} 0 1 = cc in omega arith)
found_below rows (suc n) f e = at (eqb (row_at rows n).size 0) (has (row_at rows n).flags 1) (found_below rows n f) e
  where
    at : (empty pad : Bool) → (tail_pad_in rows n ≡ Some f → f < n)
        → cond empty (tail_pad_in rows n) (present_if pad n) ≡ Some f → f < suc n
    at true pad before e = let h = before e in omega arith
    at false true before e = let h : n ≡ f = cc in omega arith
    at false false before e = absurd (let z : ◌≡◌ {A = ℕ} 0 1 = cc in omega arith)

-- the search reads nothing behind the rows that it counts: the first n rows alone, as the code lends them, and all
-- others with them hold the same pad
module _ (rows : List ℕ) (n : ℕ) where
  row-taken : (k : ℕ) → k < n → row_at (take (n * 8) rows) k ≡ row_at rows k
  row-taken k h =
      row-ext (take (n * 8) rows) rows k k
      (λ j b. (let p : k * 8 + j < n * 8 = omega arith in get_or-take (n * 8) rows (k * 8 + j) 0 p))

  pad-taken : (m : ℕ) → m ≤ n → tail_pad_in (take (n * 8) rows) m ≡ tail_pad_in rows m
  unfolding tail_pad_in
  pad-taken zero h = refl
  pad-taken (suc m) h =
      ap (λ (r : Row). cond (eqb r.size 0) (tail_pad_in (take (n * 8) rows) m) (present_if (has r.flags 1) m)) (row-taken m (omega arith))
      ∙ ap (λ (o : Option ℕ). cond (eqb (row_at rows m).size 0) o (present_if (has (row_at rows m).flags 1) m)) (pad-taken m (omega arith))

  pub pad_front : n ≤ length rows / 8 → tail_pad_in (take (n * 8) rows) (length (take (n * 8) rows) / 8) ≡ tail_pad_in rows n
  pad_front h =
      let c : length (take (n * 8) rows) / 8 ≡ n = omega (arith, length-take (n * 8) rows) in rw c (pad-taken n (omega arith))

  pub found_front : (f : ℕ) → tail_pad_in (take (n * 8) rows) (length (take (n * 8) rows) / 8) ≡ Some f → f < n
  found_front f e =
      omega (arith, length-take (n * 8) rows, found_below (take (n * 8) rows) (length (take (n * 8) rows) / 8) f e)

-- ---- outcomes

-- a set that its tables hold has at most 65535 files
pub few_files : (fs : FileStorage) (rooms : Rooms) → holds_in fs rooms ≡ true → fs.num_files ≤ 65535
few_files fs rooms e = let h = held fs rooms e in omega arith

module _ (s : Store) where
  -- what the search finds in the rows that are lent to it
  abbrev pad_lent : Option ℕ
  pad_lent = tail_pad_in (take (s.fs.num_files * 8) s.rows) (length (take (s.fs.num_files * 8) s.rows) / 8)

  module _ (good : bad_length s.fs.piece_length ≡ false) where
    module _ (held_in : holds s ≡ true) where
      trim-found : (found : Option ℕ) → found ≡ pad_lent → answering (value (trimmed_by found s).fs) (trimmed_by found s) ≡ trim_stored s
      trim-found found e =
          let h = (held s.fs (rooms_of s) held_in).files in
          let f : found ≡ tail_pad_in s.rows s.fs.num_files = e ∙ pad_front s.rows s.fs.num_files (omega arith) in
          rw (good, held_in, tail-pad-rows s s.fs.num_files, ← f)

      pub trim-none : None ≡ pad_lent → answering (value s.fs) s ≡ trim_stored s
      trim-none e = trim-found None e

      pub trim-done : (f : ℕ) (t : Store) → Some f ≡ pad_lent → t ≡ store_trimmed s f → answering (value t.fs) t ≡ trim_stored s
      trim-done f t e h =
          ap (λ (x : Store). answering (value x.fs) x) h ∙ trim-found (Some f) e
