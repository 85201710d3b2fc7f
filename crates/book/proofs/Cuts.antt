-- Demand 3's questions can be asked: every cut of the set into nonempty blocks, each from any piece that starts at or before
-- it and with any window, with tables just large enough, has its answers. It relies on nothing but the definitions.
--     cut-asked       the questions of a cut
use mathlib.Core.Path.{◌≡◌, refl, ap}
use mathlib.Core.List.{List, [], ◌∷◌, map}
use Prim.Native.Nat.{ℕ, ◌+◌, ◌-◌, ◌*◌, ◌≤◌, ◌<◌}
use native.Mathlib.Omega.{arith}
use lib.IntN.{pos}
use lib.ListN.{replicate, length-replicate}
use Rattle.lists.specs.Lists.{sum}
use Rattle.types.specs.declared.index.FileSlice.{FileSlice}
use Rattle.tables.specs.Model.{Store}
use Rattle.layout.specs.declared.window.Window.{Window}
use Rattle.mapping.specs.Table.{Filled, block_mapped}
use Rattle.book.specs.Slices.{slice, meets}
use Rattle.book.specs.Demand.{MapCall, record_of, Cut}

-- a cut: the blocks' sizes, none of them 0
abbrev pub Nonempty : List ℕ → Type 0
Nonempty [] = Unit {0}
Nonempty (m ∷ ms) = (0 < m) × Nonempty ms

module _ (n : ℕ) (sizes : List ℕ) (s : Store) (from : ℕ → ℕ) (low : (t : ℕ) → from t * n ≤ t) (window : ℕ → Window) where
  -- the block of m bytes at byte t, asked from the piece that `from` says and with the window that `window` says, with a place for each file it meets
  abbrev lent_for : ℕ → ℕ → List FileSlice
  lent_for t m = replicate (meets sizes t m) (record_of (slice 0 0 0))

  abbrev answered : ℕ → ℕ → Filled
  answered t m = block_mapped s.fs s.rows (window t) (pos (from t)) (pos (t - from t * n)) (pos m) (lent_for t m)

  abbrev asking : ℕ → ℕ → MapCall
  asking t m =
      record {
        window = window t;
        piece = from t;
        offset = t - from t * n;
        size = m;
        lent = lent_for t m;
        says = (answered t m).says;
        left = (answered t m).table;
      }

  -- the calls of a cut from byte t to byte e into blocks of the sizes ms
  pub record CutInto (t e : ℕ) (ms : List ℕ) : Type 0 where
    pub calls : List MapCall
    pub blocks : map (λ (q : MapCall). q.size) calls ≡ ms
    pub cut : Cut n sizes s t e calls

  pub cut-asked : (t e : ℕ) (ms : List ℕ) → Nonempty ms → t + sum ms ≡ e → CutInto t e ms
  cut-asked t e [] h k = record { calls = []; blocks = refl; cut = omega arith }
  cut-asked t e (m ∷ ms) (h, hs) k =
      let r = cut-asked (t + m) e ms hs (omega arith) in
      record {
        calls = asking t m ∷ r.calls;
        blocks = ap (λ (l : List ℕ). m ∷ l) r.blocks;
        cut = (
          record {
            place = omega (arith, low t);
            nonempty = h;
            room = omega (arith, length-replicate (meets sizes t m) (record_of (slice 0 0 0)));
            call = refl;
          },
          r.cut,
        );
      }
