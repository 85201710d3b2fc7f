-- Demand 3 of document 01: for every list of calls and every cut of the set's bytes into blocks. It relies on the book's
-- agreement with the set (Agree.antt) and on demand 3 of a set in order (Demand.antt).
--     demand-3            the demand
--     holds               the tables hold the book's rows
--     demand-3-many       over 2147483647 pieces, where both mappings are refused by 13
use mathlib.Core.Path.{◌≡◌}
use mathlib.Core.List.{List}
use Prim.Native.Nat.{ℕ, ◌≤◌, ◌<◌}
use lib.IntN.{ℤ, pos}
use lib.ListN.{length}
use Rattle.lists.specs.Lists.{ceiling}
use Rattle.types.specs.Refusals.{refused}
use Rattle.types.specs.declared.index.FileSlice.{FileSlice}
use Rattle.tables.specs.Model.{Store}
use Rattle.layout.specs.declared.window.Window.{Window}
use Rattle.mapping.specs.Table.{block_mapped}
use Rattle.files.specs.Given.{file_mapped}
use Rattle.book.specs.Book.{Made, sizes_of, bytes_of, book}
use Rattle.book.specs.Calls.{Renames, Leads}
use Rattle.book.specs.Demand.{MapCall, Cut, Demand3}
use Rattle.book.proofs.Tables.{Holds}
use Rattle.book.proofs.Agree.{agrees, sizes-agree}
use Rattle.book.proofs.Firsts.{held}
use Rattle.book.proofs.Demand.{demand-of, many-blocks, many-files}

-- 'one claim about the whole list': the calls `made`, refused ones included, led to the tables s; the blocks of `qs` cut the
-- book's bytes, from 0 to the last
pub demand-3 :
    (n : ℕ) (made : List Made) (s : Store) (r : Renames) (qs : List MapCall) → Leads n made s r →
    ceiling (bytes_of (book n made).rows) n ≤ 2147483647 →
    Cut n (sizes_of (book n made).rows) s 0 (bytes_of (book n made).rows) qs →
    Demand3 n (sizes_of (book n made).rows) s qs
demand-3 n made s r qs p few a =
    let g = agrees p in
    demand-of n (sizes_of (book n made).rows) s qs g.sound g.lengths g.some g.short (sizes-agree p) few a

-- the tables hold the book's rows
pub holds : {n : ℕ} {made : List Made} {s : Store} {r : Renames} → Leads n made s r → Holds n (sizes_of (book n made).rows) s.fs s.rows
holds p = held (agrees p)

module _ {n : ℕ} {made : List Made} {s : Store} {r : Renames} (p : Leads n made s r) (many : 2147483647 < ceiling (bytes_of (book n made).rows) n) where
  pub demand-3-many : (w : Window) (z offset size : ℤ) (out : List FileSlice) → block_mapped s.fs s.rows w z offset size out ≡ record { says = refused 13; table = out }
  demand-3-many w z offset size out = many-blocks (holds p) many w z offset size out

  pub demand-3-many-back : (k : ℕ) (offset size : ℤ) → k < length (sizes_of (book n made).rows) → file_mapped s.fs s.rows (pos k) offset size ≡ refused 13
  demand-3-many-back k offset size h = many-files (holds p) many k h offset size
