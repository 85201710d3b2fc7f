-- One step of a cleaning, on tables in order: a link's text goes, or one is put where none was, or takes the place of the old
-- one. The tables stay in order and mean the set with that link's text. It relies on Cleaned/Texts.antt and on the laws of spans
-- and rows in `tables`.
--     emptied-turn, linked-turn, relinked-turn
use Rattle.std.specs.Prelude.{Some}
use mathlib.Core.Path.{◌≡◌, refl, sym, ap, subst, ◌∙◌}
use mathlib.Core.Bool.{Bool, true, false, cond}
use mathlib.Core.Logic.{◌⊎◌, inl, inr}
use mathlib.Core.List.{List, []}
use Prim.Native.Nat.{ℕ, ◌+◌, ◌-◌, ◌*◌, ◌/◌, ◌≤◌, ◌<◌, min}
use native.Mathlib.Nat.{add-zero}
use native.Mathlib.Omega.{arith}
use lib.Dec.{eqb, ltb}
use lib.ListN.{length}
use lib.Seq.{sets, length-sets}
use borrow.Author.Tests.{lt-ltb, le-ltb, eqb-true, eqb-false}
use Rattle.lists.proofs.Orders.{le-or-lt}
use Rattle.lists.proofs.Runs.{sets_over}
use Rattle.tables.specs.declared.span.Span.{Span}
use Rattle.tables.specs.declared.rows.Row.{Row}
use Rattle.tables.specs.Span.{end_of, text_at, Apart, low}
use Rattle.tables.specs.Rows.{row_at, words, dir_at, put_row, has, filled}
use Rattle.tables.specs.Model.{File, Store, file_of}
use Rattle.tables.proofs.Spans.{apart-kept, within-kept, read_kept, apart-empty, apart-before, apart-sym, clip-same, length-slid, read-before, read-new}
use Rattle.tables.proofs.Words.{InRange, row-in-range, row_back, row_other, length-put-row}
use Rattle.tables.proofs.Moves.{row-filled, dir-lowered, length-lowered}
use Rattle.links.specs.Clean.{linked_to}
use Rattle.texts.specs.Texts.{storage_with, row_with, row_lowered, rows_lowered, cut_out, gone_at, linked, relinked}
use Rattle.sound.specs.Sound.{TextId, set_name, dir_name, file_name, link_text, nowhere, span_of, Sound}
use Rattle.sound.proofs.Texts.{link-span}
use Rattle.sound.proofs.Trimmed.Spans.{low-nowhere}
use Rattle.reached.proofs.Cleaned.Texts.{is_link, link-is, link-not, Area, over, Relinks, Turned, turned_same, turned_then, at_file, turn}

-- ---- rows once a span is removed

-- a row that is read is in range, whichever its spans are
with-in-range : (rows : List ℕ) (i : ℕ) (x y : Span) → InRange (row_with (row_at rows i) x y)
with-in-range rows i x y =
    let k = row-in-range rows i in
    record { offset = k.offset; size = k.size; flags = k.flags }

module _ (rows : List ℕ) (n : ℕ) (c : Span) where
  length-rows-lowered : length (rows_lowered rows n c) ≡ length rows
  length-rows-lowered = length-sets rows 0 (filled (λ i. words (row_lowered c (row_at rows i))) 0 (min n (length rows / 8)))

  row-lowered : (k : ℕ) → k < n → k * 8 + 8 ≤ length rows → row_at (rows_lowered rows n c) k ≡ row_lowered c (row_at rows k)
  row-lowered k h f =
      row-filled rows (λ i. row_lowered c (row_at rows i)) (min n (length rows / 8)) k (omega arith) (omega arith) (with-in-range rows k _ _)

-- a row is what it was but for its spans, whichever these are
row-form : (r q : Row) (x y : Span) → r ≡ row_with q x y → r ≡ row_with q r.name r.link
row-form r q x y e = e ∙ sym (ap (λ (z : Row). row_with q z.name z.link) e)

-- an empty text put first makes no difference
linked-twice : (x : Store) (i : ℕ) (l : List ℕ) → i * 8 + 8 ≤ length x.rows → linked (linked x i []) i l ≡ linked x i l
linked-twice x i l h =
    ap (λ (r : Row). by (x.fs.text_len + 0) (put_row (put_row x.rows i old) i (row_with r r.name (new (x.fs.text_len + 0))))) (row_back x.rows i old h (with-in-range x.rows i _ _))
    ∙ ap (by (x.fs.text_len + 0)) (sets_over (words old) (words (row_with old old.name (new (x.fs.text_len + 0)))) x.rows (i * 8) (omega arith))
    ∙ ap (λ (v : ℕ). by v (put_row x.rows i (row_with old old.name (new v)))) (add-zero x.fs.text_len)
  where
    old : Row
    old = row_with (row_at x.rows i) (row_at x.rows i).name (record { at = x.fs.text_len; len = 0 })

    new : ℕ → Span
    new v = record { at = v; len = length l }

    by : ℕ → List ℕ → Store
    by v rows =
        record {
          fs = storage_with x.fs x.fs.name (v + length l);
          rows = rows;
          roots = x.roots;
          firsts = x.firsts;
          dirs = x.dirs;
          text = sets x.text v l;
        }

-- of two texts put for one file the second counts
twice : (i : ℕ) (a b : List ℕ) (k : ℕ) (f : File) → at_file i (linked_to (Some b)) k (at_file i (linked_to (Some a)) k f) ≡ at_file i (linked_to (Some b)) k f
twice i a b k f = at (eqb k i)
  where
    at : (c : Bool) → cond c (linked_to (Some b) (cond c (linked_to (Some a) f) f)) (cond c (linked_to (Some a) f) f) ≡ cond c (linked_to (Some b) f) f
    at true = refl
    at false = refl

-- ---- where texts lie

-- where a store's texts lie
abbrev area_of : Store → Area
area_of t = record { name = t.fs.name; used = t.fs.text_len; rows = t.rows; dirs = t.dirs; text = t.text }

-- every place but that of link i lies where m puts it
module _ (s : Store) (i : ℕ) (a : Area) (m : Span → Span) (none : m nowhere ≡ nowhere) (name : a.name ≡ m s.fs.name)
    (dir : (k : ℕ) → k < s.fs.num_paths → dir_at a.dirs k ≡ m (dir_at s.dirs k))
    (file : (k : ℕ) → k < s.fs.num_files → (row_at a.rows k).name ≡ m (row_at s.rows k).name)
    (link : (k : ℕ) → k < s.fs.num_files → (k ≡ i → ⊥) → (row_at a.rows k).link ≡ m (row_at s.rows k).link) where
  -- past the end of a table there is none
  past : (k n : ℕ) (x y : Span) → (k < n → x ≡ m y) → cond (ltb k n) x nowhere ≡ m (cond (ltb k n) y nowhere)
  past k n x y e = at (le-or-lt n k)
    where
      at : (n ≤ k) ⊎ (k < n) → cond (ltb k n) x nowhere ≡ m (cond (ltb k n) y nowhere)
      at (inl b) = rw (le-ltb k n b) (sym none)
      at (inr b) = rw (lt-ltb k n b) (e b)

  moved : (p : TextId) → is_link i p ≡ false → span_of (over s a) p ≡ m (span_of s p)
  moved set_name e = name
  moved (dir_name k) e = past k s.fs.num_paths (dir_at a.dirs k) (dir_at s.dirs k) (dir k)
  moved (file_name k) e = past k s.fs.num_files (row_at a.rows k).name (row_at s.rows k).name (file k)
  moved (link_text k) e =
      past k s.fs.num_files (row_at a.rows k).link (row_at s.rows k).link (λ b. link k b (eqb-false k i e))

module _ (s : Store) (ok : Sound s) (i : ℕ) (h : i < s.fs.num_files) where
  abbrev n : ℕ
  n = s.fs.num_files

  abbrev u : ℕ
  u = s.fs.text_len

  abbrev c : Span
  c = (row_at s.rows i).link

  -- the text lies in the used part, so nothing is clipped
  inside : end_of c ≤ u
  inside = rw (link-span s i h) at (ok.within (link_text i))

  pub gone-is : gone_at s i ≡ c
  gone-is = clip-same u c inside

  -- ---- its text goes

  abbrev without : Store
  without = linked (cut_out s c) i []

  abbrev lowered : List ℕ
  lowered = rows_lowered s.rows n c

  bound : (k : ℕ) → k < n → k * 8 + 8 ≤ length s.rows
  bound k b = omega (arith, ok.rows-hold)

  -- its row, every other row, and any row but for its spans
  row_here : row_at without.rows i ≡ row_with (row_at s.rows i) (low c (row_at s.rows i).name) (record { at = u - c.len; len = 0 })
  row_here =
      row_back lowered i (row_with (row_at lowered i) (row_at lowered i).name (record { at = u - c.len; len = 0 })) (omega (arith, bound i h, length-rows-lowered s.rows n c)) (with-in-range lowered i _ _)
      ∙ ap (λ (x : Row). row_with x x.name (record { at = u - c.len; len = 0 })) (row-lowered s.rows n c i h (bound i h))

  row-there : (k : ℕ) → k < n → (k ≡ i → ⊥) → row_at without.rows k ≡ row_lowered c (row_at s.rows k)
  row-there k b d =
      row_other lowered i (row_with (row_at lowered i) (row_at lowered i).name (record { at = u - c.len; len = 0 })) k d
      ∙ row-lowered s.rows n c k b (bound k b)

  row_of : (k : ℕ) → k < n → ((row_at without.rows k).name ≡ low c (row_at s.rows k).name) × (row_at without.rows k ≡ row_with (row_at s.rows k) (row_at without.rows k).name (row_at without.rows k).link)
  row_of k b = at (eqb k i) refl
    where
      at : (d : Bool) → eqb k i ≡ d
          → ((row_at without.rows k).name ≡ low c (row_at s.rows k).name) × (row_at without.rows k ≡ row_with (row_at s.rows k) (row_at without.rows k).name (row_at without.rows k).link)
      at true q =
          rw (eqb-true k i q)
          (ap (λ (r : Row). r.name) row_here, row-form (row_at without.rows i) (row_at s.rows i) (low c (row_at s.rows i).name) (record { at = u - c.len; len = 0 }) row_here)
      at false q =
          let e = row-there k b (eqb-false k i q) in
          (ap (λ (r : Row). r.name) e, row-form (row_at without.rows k) (row_at s.rows k) (low c (row_at s.rows k).name) (low c (row_at s.rows k).link) e)

  dir-there : (k : ℕ) → k < s.fs.num_paths → dir_at without.dirs k ≡ low c (dir_at s.dirs k)
  dir-there k b = dir-lowered s.dirs s.fs.num_paths c k b (omega (arith, ok.dirs-hold))

  -- where the other texts lie then, and where its own
  span-there : (p : TextId) → is_link i p ≡ false → span_of without p ≡ low c (span_of s p)
  span-there =
      moved s i (area_of without) (low c) (low-nowhere c) refl dir-there (λ k b. (row_of k b).0) (λ k b d. ap (λ (r : Row). r.link) (row-there k b d))

  span-here : span_of without (link_text i) ≡ record { at = u - c.len; len = 0 }
  span-here = link-span without i h ∙ ap (λ (r : Row). r.link) row_here

  -- no other text has a byte in common with it
  aside : (p : TextId) → is_link i p ≡ false → Apart c (span_of s p)
  aside p e = rw (link-span s i h) at (ok.apart (link_text i) p (link-not i p e))

  within-without : (p : TextId) → end_of (span_of without p) ≤ u - c.len + 0
  within-without p = at (is_link i p) refl
    where
      at : (b : Bool) → is_link i p ≡ b → end_of (span_of without p) ≤ u - c.len + 0
      at true q = rw (link-is i p q, span-here) (omega arith)
      at false q =
          rw (span-there p q, add-zero (u - c.len)) (within-kept c (span_of s p) u inside (ok.within p) (aside p q))

  apart-without : (p q : TextId) → (p ≡ q → ⊥) → Apart (span_of without p) (span_of without q)
  apart-without p q d = at (is_link i p) (is_link i q) refl refl
    where
      at : (x y : Bool) → is_link i p ≡ x → is_link i q ≡ y → Apart (span_of without p) (span_of without q)
      at true y e f = rw (link-is i p e) (apart-empty (span_of without (link_text i)) (span_of without q) (rw span-here))
      at false true e f =
          rw (link-is i q f)
          (apart-sym (span_of without (link_text i)) (span_of without p) (apart-empty (span_of without (link_text i)) (span_of without p) (rw span-here)))
      at false false e f =
          rw (span-there p e, span-there q f) (apart-kept c (span_of s p) (span_of s q) (aside p e) (aside q f) (ok.apart p q d))

  relinks-without : Relinks s i [] (area_of without)
  relinks-without =
      record {
        row = λ k b. (row_of k b).1;
        rows_long = length-put-row lowered i (row_with (row_at lowered i) (row_at lowered i).name (record { at = u - c.len; len = 0 })) ∙ length-rows-lowered s.rows n c;
        dirs-long = length-lowered s.dirs s.fs.num_paths c;
        text-long = length-slid c u s.text;
        holds = omega (arith, ok.text-holds);
        used = omega (arith, inside);
        size = ap (λ (r : Row). r.link.len) row_here;
        says = ap (λ (r : Row). text_at without.text r.link) row_here;
        sizes = λ p e. ap (λ (x : Span). x.len) (span-there p e);
        reads = λ p e. ap (text_at without.text) (span-there p e) ∙ read_kept c u s.text (span_of s p) (aside p e) inside (ok.within p) ok.text-holds;
        within = within-without;
        apart = apart-without;
      }

  module _ (held : has (row_at s.rows i).flags 16 ≡ true) where
    without-turn : Turned s without (at_file i (linked_to (Some [])))
    without-turn = turn s ok i h [] (area_of without) relinks-without held

    pub emptied-turn : Turned s (relinked s i []) (at_file i (linked_to (Some [])))
    emptied-turn =
        subst (λ (x : Span). Turned s (linked (cut_out s x) i []) (at_file i (linked_to (Some [])))) (sym gone-is) without-turn

  -- ---- a text is put where none was

  module _ (l : List ℕ) (bare : c.len ≡ 0) (room : u + length l ≤ length s.text) where
    abbrev put : Store
    put = linked s i l

    abbrev new : Span
    new = record { at = u; len = length l }

    abbrev new_row : Row
    new_row = row_with (row_at s.rows i) (row_at s.rows i).name new

    -- its row, every other row, and any row but for its spans
    put-here : row_at put.rows i ≡ new_row
    put-here = row_back s.rows i new_row (bound i h) (with-in-range s.rows i _ _)

    put-there : (k : ℕ) → (k ≡ i → ⊥) → row_at put.rows k ≡ row_at s.rows k
    put-there k d = row_other s.rows i new_row k d

    put_of : (k : ℕ) → ((row_at put.rows k).name ≡ (row_at s.rows k).name) × (row_at put.rows k ≡ row_with (row_at s.rows k) (row_at put.rows k).name (row_at put.rows k).link)
    put_of k = at (eqb k i) refl
      where
        at : (d : Bool) → eqb k i ≡ d
            → ((row_at put.rows k).name ≡ (row_at s.rows k).name) × (row_at put.rows k ≡ row_with (row_at s.rows k) (row_at put.rows k).name (row_at put.rows k).link)
        at true q =
            rw (eqb-true k i q)
            (ap (λ (r : Row). r.name) put-here, row-form (row_at put.rows i) (row_at s.rows i) (row_at s.rows i).name new put-here)
        at false q =
            let e = put-there k (eqb-false k i q) in
            (ap (λ (r : Row). r.name) e, row-form (row_at put.rows k) (row_at s.rows k) (row_at s.rows k).name (row_at s.rows k).link e)

    -- the other texts lie where they lay, and the new one behind the used part
    span-kept : (p : TextId) → is_link i p ≡ false → span_of put p ≡ span_of s p
    span-kept =
        moved s i (area_of put) (λ (x : Span). x) refl refl (λ k b. refl) (λ k b. (put_of k).0) (λ k b d. ap (λ (r : Row). r.link) (put-there k d))

    span-new : span_of put (link_text i) ≡ new
    span-new = link-span put i h ∙ ap (λ (r : Row). r.link) put-here

    within-put : (p : TextId) → end_of (span_of put p) ≤ u + length l
    within-put p = at (is_link i p) refl
      where
        at : (b : Bool) → is_link i p ≡ b → end_of (span_of put p) ≤ u + length l
        at true q = rw (link-is i p q, span-new) (omega arith)
        at false q = rw (span-kept p q) (omega (arith, ok.within p))

    apart-put : (p q : TextId) → (p ≡ q → ⊥) → Apart (span_of put p) (span_of put q)
    apart-put p q d = at (is_link i p) (is_link i q) refl refl
      where
        at : (x y : Bool) → is_link i p ≡ x → is_link i q ≡ y → Apart (span_of put p) (span_of put q)
        at true true e f = absurd (d (link-is i p e ∙ sym (link-is i q f)))
        at true false e f =
            rw (link-is i p e, span-new, span-kept q f) (apart-sym (span_of s q) new (apart-before (span_of s q) new (ok.within q)))
        at false true e f = rw (link-is i q f, span-new, span-kept p e) (apart-before (span_of s p) new (ok.within p))
        at false false e f = rw (span-kept p e, span-kept q f) (ok.apart p q d)

    relinks-put : Relinks s i l (area_of put)
    relinks-put =
        record {
          row = λ k b. (put_of k).1;
          rows_long = length-put-row s.rows i new_row;
          dirs-long = refl;
          text-long = length-sets s.text u l;
          holds = room;
          used = omega (arith, bare);
          size = ap (λ (r : Row). r.link.len) put-here;
          says = ap (λ (r : Row). text_at put.text r.link) put-here ∙ read-new s.text l u room;
          sizes = λ p e. ap (λ (x : Span). x.len) (span-kept p e);
          reads = λ p e. ap (text_at put.text) (span-kept p e) ∙ read-before s.text l u (span_of s p) (ok.within p);
          within = within-put;
          apart = apart-put;
        }

    pub linked-turn : has (row_at s.rows i).flags 16 ≡ true → Turned s (linked s i l) (at_file i (linked_to (Some l)))
    linked-turn held = turn s ok i h l (area_of put) relinks-put held

-- ---- a text takes the place of the old one

module _ (s : Store) (ok : Sound s) (i : ℕ) (h : i < s.fs.num_files) (l : List ℕ) (held : has (row_at s.rows i).flags 16 ≡ true) where
  abbrev old : Span
  old = (row_at s.rows i).link

  -- it goes, and then the new one is put
  module _ (room : s.fs.text_len - old.len + length l ≤ length s.text) where
    between : Turned s (without s ok i h) (at_file i (linked_to (Some [])))
    between = without-turn s ok i h held

    second : Turned (without s ok i h) (linked (without s ok i h) i l) (at_file i (linked_to (Some l)))
    second =
        linked-turn (without s ok i h) between.sound i h l
        (ap (λ (r : Row). r.link.len) (row_here s ok i h))
        (omega (arith, between.long))
        (ap (λ (r : Row). has r.flags 16) (row_here s ok i h) ∙ held)

    pub relinked-turn : Turned s (relinked s i l) (at_file i (linked_to (Some l)))
    relinked-turn =
        subst (λ (x : Span). Turned s (linked (cut_out s x) i l) (at_file i (linked_to (Some l)))) (sym (gone-is s ok i h))
        (subst (λ (x : Store). Turned s x (at_file i (linked_to (Some l)))) (linked-twice (cut_out s old) i l (omega (arith, ok.rows-hold, length-rows-lowered s.rows s.fs.num_files old)))
        (turned_same (λ k b. twice i [] l k (file_of s k)) (turned_then between second)))
