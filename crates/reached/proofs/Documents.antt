-- What BEP 3, 47 and 52 say of a set holds of every set that opening, additions, trims and cleanings lead to. It relies on what
-- the search for a tail pad finds, and on what a cleaning keeps of each file.
use Rattle.std.specs.Prelude.{Option, Some, None}
use mathlib.Core.Path.{◌≡◌, refl, sym, ap, subst, ◌∙◌}
use mathlib.Core.Bool.{Bool, true, false, cond, false≢true, ◌&&◌, ◌||◌}
use mathlib.Core.List.{List, [], ◌∷◌, ◌++◌, map, map-append, map-map}
use Prim.Native.Nat.{ℕ, zero, suc, ◌+◌, ◌-◌, ◌*◌, ◌/◌, ◌%◌, ◌≤◌, ◌<◌}
use native.Mathlib.Omega.{arith}
use lib.Dec.{eqb}
use native.Mathlib.Nat.{zero-add, zero-mod, div-add-mod, add-mod-mod, mod-lt, mul-suc, mul-mod_right}
use lib.ListN.{length, get_or, take, drop, get_or-eq_default}
use lib.Seq.{get_or-drop}
use borrow.Author.Tests.{eqb-true, eqb-false, eq-eqb}
use Rattle.lists.specs.Lists.{sum}
use Rattle.lists.specs.Decimal.{decimal}
use Rattle.lists.proofs.Sums.{sum-append}
use Rattle.tables.specs.Model.{present_if, File, is_pad, Model}
use Rattle.additions.specs.Addition.{Addition, added, file_added, pad_added, pad_of, size_added, flags_kept, keeps, is_present, files_of, is_v2, is_left_open, decides, pad_to, pad_after}
use Rattle.trim.specs.Trim.{tail_pad, size_at, beginning_at, without_file, trimmed_if}
use Rattle.links.specs.Clean.{cleaned_of}
use Rattle.sound.specs.Documents.{sizes, EndToEnd, disk_size_of, OnDisk, Marked, MadePad, OnPiece, Each, none, more, LinkEmpty}
use Rattle.reached.specs.Reached.{Reached, opened, addition, trim, cleaning}
use Rattle.rules.proofs.Rules.{both_true}
use Rattle.sound.proofs.Trimmed.Tail.{flags_at, Last, TailPad, tail-pad}
use Rattle.sound.proofs.Files.{map-take, map-drop, each_append, each-front, each_take, each-drop, each_map, each-unmap, sum-zero, sum-except, sizes_of, Laid, done, next, laid-append, laid-take, laid-map, laid-empty, laid-offset}
use Rattle.reached.proofs.Cleaned.Files.{cleaned_in, clean-same, clean-held, clean-map, clean-map-same}

-- the pad that an addition makes, where it makes one
pad-laid : (o n : ℕ) → Laid o (pad_added o n)
pad-laid o n = at (eqb n 0) refl
  where
    at : (b : Bool) → eqb n 0 ≡ b → Laid o (pad_added o n)
    at true e = rw e done
    at false e = rw e (next refl done)

pad-size : (o n : ℕ) → sum (sizes_of (pad_added o n)) ≡ n
pad-size o n = at (eqb n 0) refl
  where
    at : (b : Bool) → eqb n 0 ≡ b → sum (sizes_of (pad_added o n)) ≡ n
    at true e = rw e (sym (eqb-true n 0 e))
    at false e = rw e (omega arith)

-- ---- BEP 3

record Ends (m : Model) : Type 0 where
  laid : Laid 0 m.files
  total : m.total ≡ sum (sizes m)

-- the files behind the last nonempty one are empty, and their sizes sum to nothing
module _ (files : List File) (f : ℕ) (p : Last files f) where
  rest-empty : (k : ℕ) → size_at k (drop (f + 1) files) ≡ 0
  rest-empty k =
      ap (λ (xs : List ℕ). get_or xs k 0) (map-drop (λ (g : File). g.size) (f + 1) files)
      ∙ get_or-drop (f + 1) (sizes_of files) k 0
      ∙ p.behind (f + 1 + k) (omega arith)

  rest-none : sum (sizes_of (drop (f + 1) files)) ≡ 0
  rest-none = sum-zero (sizes_of (drop (f + 1) files)) rest-empty

  -- what is left is the sum of the sizes before
  sum-front : sum (sizes_of files) - size_at f files ≡ sum (sizes_of (take f files))
  sum-front =
      let a = ap sum (map-take (λ (g : File). g.size) f files) in
      let b = ap sum (map-drop (λ (g : File). g.size) (f + 1) files) in
      omega (arith, sum-except (sizes_of files) f, rest-none)

sizes-append : (fs gs : List File) → sum (sizes_of (fs ++ gs)) ≡ sum (sizes_of fs) + sum (sizes_of gs)
sizes-append fs gs = rw (map-append (λ (f : File). f.size) fs gs) (sum-append (sizes_of fs) (sizes_of gs))

ends-without : (m : Model) (f : ℕ) → Last m.files f → Ends m → Ends (without_file f m)
ends-without m f p e = record { laid = laid-append rest (laid-take f e.laid) q; total = t ∙ s }
  where
    front : List File
    front = take f m.files

    o : ℕ
    o = m.total - size_at f m.files

    rest : List File
    rest = map (beginning_at o) (drop (f + 1) m.files)

    t : o ≡ sum (sizes_of front)
    t = ap (λ (n : ℕ). n - size_at f m.files) e.total ∙ sum-front m.files f p

    q : Laid (0 + sum (sizes_of front)) rest
    q = rw (zero-add (sum (sizes_of front)), ← t) (laid-empty o (drop (f + 1) m.files) (rest-empty m.files f p))

    r : sum (sizes_of rest) ≡ 0
    r = ap sum (map-map (λ (g : File). g.size) (beginning_at o) (drop (f + 1) m.files)) ∙ rest-none m.files f p

    s : sum (sizes_of front) ≡ sum (sizes_of (front ++ rest))
    s = omega (arith, sizes-append front rest, r)

-- files with one more, and the pad behind it
module _ (fs : List File) (g : File) (n : ℕ) where
  sizes-more : (o : ℕ) → sum (sizes_of (fs ++ (g ∷ pad_added o n))) ≡ sum (sizes_of fs) + g.size + n
  sizes-more o = omega (arith, sizes-append fs (g ∷ pad_added o n), pad-size o n)

  laid_more : g.offset ≡ sum (sizes_of fs) → Laid 0 fs → Laid 0 (fs ++ (g ∷ pad_added (sum (sizes_of fs) + g.size) n))
  laid_more e p =
      let z = zero-add (sum (sizes_of fs)) in
      let q : Laid (0 + sum (sizes_of fs) + g.size) (pad_added (sum (sizes_of fs) + g.size) n) = rw z (pad-laid (sum (sizes_of fs) + g.size) n) in
      laid-append (g ∷ pad_added (sum (sizes_of fs) + g.size) n) p (next (e ∙ sym z) q)

ends-added : (m : Model) (a : Addition) → Ends m → Ends (added m a)
ends-added m a e =
    let g = file_added m a in
    let l = laid_more m.files g (pad_of m a) e.total e.laid in
    record {
      laid = subst (λ (t : ℕ). Laid 0 (m.files ++ (g ∷ pad_added (t + size_added a) (pad_of m a)))) (sym e.total) l;
      total = ap (λ (t : ℕ). t + size_added a + pad_of m a) e.total ∙ sym (sizes-more m.files g (pad_of m a) (m.total + size_added a));
    }

ends-cleaned : (m : Model) → Ends m → Ends (cleaned_of m)
ends-cleaned m e =
    record {
      laid = laid-map (cleaned_in m) (clean-same m (λ (f : File). f.offset) (λ l f. refl)) (clean-same m (λ (f : File). f.size) (λ l f. refl)) e.laid;
      total = e.total ∙ ap sum (sym (clean-map-same m (λ (f : File). f.size) (λ l f. refl)));
    }

ends : {m : Model} → Reached m → Ends m
ends (opened n h k) = record { laid = done; total = refl }
ends (addition {m} r rooms a p) = ends-added m a (ends r)
ends (trim {m} r) = at (tail_pad m.files) refl (ends r)
  where
    at : (o : Option ℕ) → tail_pad m.files ≡ o → Ends m → Ends (trimmed_if o m)
    at None q e = e
    at (Some f) q e = ends-without m f (tail-pad m.files f q).last e
ends (cleaning {m} r) = ends-cleaned m (ends r)

pub end_to_end_lem : {m : Model} → Reached m → EndToEnd m
end_to_end_lem {m} r =
    let e = ends r in
    record { offsets = λ k h. laid-offset e.laid k h ∙ zero-add (sum (take k (sizes m))); total = e.total }

-- ---- BEP 47

abbrev on_disk_of : List File → List ℕ
on_disk_of fs = map disk_size_of fs

-- the pad bit is kept
pad-bit : (flags : ℕ) (keeps : Bool) → flags_kept flags keeps % 2 ≡ flags % 2
pad-bit flags true = omega arith
pad-bit flags false = omega arith

disk-append : (fs gs : List File) → sum (on_disk_of (fs ++ gs)) ≡ sum (on_disk_of fs) + sum (on_disk_of gs)
disk-append fs gs = rw (map-append disk_size_of fs gs) (sum-append (on_disk_of fs) (on_disk_of gs))

pad-disk : (o n : ℕ) → sum (on_disk_of (pad_added o n)) ≡ 0
pad-disk o n = at (eqb n 0) refl
  where
    at : (b : Bool) → eqb n 0 ≡ b → sum (on_disk_of (pad_added o n)) ≡ 0
    at true e = rw e
    at false e = rw e

-- a pad takes no room on disk
disk-pad : (fs : List File) (f : ℕ) → flags_at f fs % 2 ≡ 1 → get_or (on_disk_of fs) f 0 ≡ 0
disk-pad [] f e = get_or-eq_default [] 0 {n = f} (omega arith)
disk-pad (g ∷ fs) zero e = ap (λ (b : Bool). cond b 0 g.size) (eq-eqb (g.flags % 2) 1 e)
disk-pad (g ∷ fs) (suc f) e = disk-pad fs f e

disk-without : (m : Model) (f : ℕ) → TailPad m.files f → OnDisk m → OnDisk (without_file f m)
disk-without m f p e =
    let o = m.total - size_at f m.files in
    let a = disk-append (take f m.files) (map (beginning_at o) (drop (f + 1) m.files)) in
    let b = ap sum (map-map disk_size_of (beginning_at o) (drop (f + 1) m.files) ∙ map-drop disk_size_of (f + 1) m.files) in
    let c = ap sum (map-take disk_size_of f m.files) in
    omega (arith, e, sum-except (on_disk_of m.files) f, disk-pad m.files f p.pad)

disk-added : (m : Model) (a : Addition) → OnDisk m → OnDisk (added m a)
disk-added m a e =
    let b = ap (λ (n : ℕ). cond (eqb n 1) 0 (size_added a)) (pad-bit a.flags (keeps m a)) in
    let o = m.total + size_added a in
    omega (arith, e, disk-append m.files (file_added m a ∷ pad_added o (pad_of m a)), pad-disk o (pad_of m a))

pub on-disk : {m : Model} → Reached m → OnDisk m
on-disk (opened n h k) = refl
on-disk (addition {m} r rooms a p) = disk-added m a (on-disk r)
on-disk (trim {m} r) = at (tail_pad m.files) refl (on-disk r)
  where
    at : (o : Option ℕ) → tail_pad m.files ≡ o → OnDisk m → OnDisk (trimmed_if o m)
    at None q e = e
    at (Some f) q e = disk-without m f (tail-pad m.files f q) e
on-disk (cleaning {m} r) = on-disk r ∙ ap sum (sym (clean-map-same m disk_size_of (λ l f. refl)))

pad-marked : (o n : ℕ) → Each Marked (pad_added o n)
pad-marked o n = at (eqb n 0) refl
  where
    at : (b : Bool) → eqb n 0 ≡ b → Each Marked (pad_added o n)
    at true e = rw e none
    at false e = rw e (more (λ made. refl) none)

begin-marked : (o : ℕ) (f : File) → Marked f → Marked (beginning_at o f)
begin-marked o f p = p

clean-marked : (m : Model) (f : File) → Marked f → Marked (cleaned_in m f)
clean-marked m f p made =
    clean-same m (λ (g : File). is_pad g.flags) (λ l g. refl) f
    ∙ p (sym (clean-same m (λ (g : File). g.made) (λ l g. refl) f) ∙ made)

pub marked : {m : Model} → Reached m → Each Marked m.files
marked (opened n h k) = none
marked (addition {m} r rooms a p) =
    each_append (marked r) (more (λ made. absurd (false≢true made)) (pad-marked (m.total + size_added a) (pad_of m a)))
marked (trim {m} r) = at (tail_pad m.files) (marked r)
  where
    at : (o : Option ℕ) → Each Marked m.files → Each Marked (trimmed_if o m).files
    at None e = e
    at (Some f) e =
        let o = m.total - size_at f m.files in
        each_append (each_take f e) (each_map (beginning_at o) (begin-marked o) (each-drop (f + 1) e))
marked (cleaning {m} r) = each_map (cleaned_in m) (clean-marked m) (marked r)

-- a pad ends on a piece
pad-ends : (n t : ℕ) → 1 ≤ n → (t + pad_to n t) % n ≡ 0
pad-ends n t h =
    let q : t + (n - t % n) ≡ n * suc (t / n) = omega (arith, div-add-mod t n, mod-lt t {m = n} h, mul-suc n (t / n)) in
    add-mod-mod t (n - t % n) n ∙ rw q (mul-mod_right n (suc (t / n)))

-- a pad made is nonempty and shorter than a piece, ends on a piece, lies in `.pad`, is named by its size, and has flag 1 alone
pad-made : (n : ℕ) (v2 : Bool) (o : ℕ) → 1 ≤ n → Each (MadePad n) (pad_added o (pad_after v2 n o))
pad-made n false o h = none
pad-made n true o h = at (eqb (pad_to n o) 0) refl
  where
    at : (b : Bool) → eqb (pad_to n o) 0 ≡ b → Each (MadePad n) (pad_added o (pad_to n o))
    at true e = rw e none
    at false e =
        rw e
        (more
        (λ made.
        record {
          nonempty = positive (pad_to n o) (eqb-false (pad_to n o) 0 e);
          shorter = mod-lt (n - o % n) {m = n} h;
          ends = pad-ends n o h;
          directory = refl;
          name = refl;
          flags = refl;
        })
        none)
      where
        positive : (k : ℕ) → (k ≡ 0 → ⊥) → 0 < k
        positive zero f = absurd (f refl)
        positive (suc k) f = omega arith

-- none of the files behind the pad that a trim removes was made, because they are empty
begin-made : (n o : ℕ) (fs : List File) → sum (sizes_of fs) ≡ 0 → Each (MadePad n) fs → Each (MadePad n) (map (beginning_at o) fs)
begin-made n o [] z none = none
begin-made n o (f ∷ fs) z (more p ps) =
    more (λ made. let q = (p made).nonempty in absurd (omega arith)) (begin-made n o fs (omega arith) ps)

clean-made : (m : Model) (n : ℕ) (f : File) → MadePad n f → MadePad n (cleaned_in m f)
clean-made m n f p made =
    let q = p (sym (clean-same m (λ (g : File). g.made) (λ l g. refl) f) ∙ made) in
    let e = clean-same m (λ (g : File). g.size) (λ l g. refl) f in
    record {
      nonempty = omega (arith, q.nonempty);
      shorter = omega (arith, q.shorter);
      ends = clean-same m (λ (g : File). (g.offset + g.size) % n) (λ l g. refl) f ∙ q.ends;
      directory = clean-same m (λ (g : File). g.directory) (λ l g. refl) f ∙ q.directory;
      name = clean-same m (λ (g : File). g.name) (λ l g. refl) f ∙ q.name ∙ ap decimal (sym e);
      flags = clean-same m (λ (g : File). g.flags) (λ l g. refl) f ∙ q.flags;
    }

-- a set has a piece length, which no call changes
long : {m : Model} → Reached m → 1 ≤ m.piece_length
long (opened n h k) = h
long (addition r rooms a p) = long r
long (trim {m} r) = at (tail_pad m.files) (long r)
  where
    at : (o : Option ℕ) → 1 ≤ m.piece_length → 1 ≤ (trimmed_if o m).piece_length
    at None h = h
    at (Some f) h = h
long (cleaning r) = long r

pub pads-made : {m : Model} → Reached m → Each (MadePad m.piece_length) m.files
pads-made (opened n h k) = none
pads-made (addition {m} r rooms a p) =
    each_append (pads-made r)
    (more (λ made. absurd (false≢true made)) (pad-made m.piece_length (is_v2 m a) (m.total + size_added a) (long r)))
pads-made (trim {m} r) = at (tail_pad m.files) refl (pads-made r)
  where
    at : (o : Option ℕ) → tail_pad m.files ≡ o → Each (MadePad m.piece_length) m.files → Each (MadePad (trimmed_if o m).piece_length) (trimmed_if o m).files
    at None q e = e
    at (Some f) q e =
        let o = m.total - size_at f m.files in
        each_append (each_take f e)
        (begin-made m.piece_length o (drop (f + 1) m.files) (rest-none m.files f (tail-pad m.files f q).last) (each-drop (f + 1) e))
pads-made (cleaning {m} r) = each_map (cleaned_in m) (clean-made m m.piece_length) (pads-made r)

-- ---- BEP 52

-- how many files have link text
abbrev link_one : File → ℕ
link_one f = cond (is_present f.link) 1 0

abbrev linked : List File → ℕ
linked fs = sum (map link_one fs)

linked-append : (fs gs : List File) → linked (fs ++ gs) ≡ linked fs + linked gs
linked-append fs gs = rw (map-append link_one fs gs) (sum-append (map link_one fs) (map link_one gs))

link-at-most : (o : Option (List ℕ)) → cond (is_present o) 1 0 ≤ 1
link-at-most None = omega arith
link-at-most (Some l) = omega arith

linked-at-most : (fs : List File) → linked fs ≤ length fs
linked-at-most [] = omega arith
linked-at-most (f ∷ fs) = omega (arith, link-at-most f.link, linked-at-most fs)

-- where every file has link text and links have no bytes, no file has any
link-size : (f : File) → LinkEmpty f → link_one f ≡ 1 → f.size ≡ 0
link-size f p h = p (held f.link h)
  where
    held : (o : Option (List ℕ)) → ◌≡◌ {A = ℕ} (cond (is_present o) 1 0) 1 → is_present o ≡ true
    held None q = absurd (omega arith)
    held (Some l) q = refl

all-linked : (fs : List File) → Each LinkEmpty fs → linked fs ≡ length fs → sum (sizes_of fs) ≡ 0
all-linked [] p h = refl
all-linked (f ∷ fs) (more p ps) h =
    let a = link-at-most f.link in
    let b = linked-at-most fs in
    omega (arith, link-size f p (omega arith), all-linked fs ps (omega arith))

empty-on-piece : (n : ℕ) (f : File) → f.size ≡ 0 → OnPiece n f
empty-on-piece n f e made some = absurd (omega arith)

all-empty : (n : ℕ) (fs : List File) → sum (sizes_of fs) ≡ 0 → Each (OnPiece n) fs
all-empty n [] h = none
all-empty n (f ∷ fs) h = let e : f.size ≡ 0 = omega arith in more (empty-on-piece n f e) (all-empty n fs (omega arith))

kept-link : (b : Bool) (l : List ℕ) → ◌≡◌ {A = ℕ} (cond (is_present (present_if b l)) 1 0) (cond b 1 0)
kept-link true l = refl
kept-link false l = refl

pad-link : (o n : ℕ) → linked (pad_added o n) ≡ 0
pad-link o n = at (eqb n 0) refl
  where
    at : (b : Bool) → eqb n 0 ≡ b → linked (pad_added o n) ≡ 0
    at true e = rw e
    at false e = rw e

pad-pieces : (l o n : ℕ) → Each (OnPiece l) (pad_added o n)
pad-pieces l o n = at (eqb n 0) refl
  where
    at : (b : Bool) → eqb n 0 ≡ b → Each (OnPiece l) (pad_added o n)
    at true e = rw e none
    at false e = rw e (more (λ made. absurd (false≢true (sym made))) none)

record Pieces (m : Model) : Type 0 where
  long : 1 ≤ m.piece_length
  counted : m.links ≡ linked m.files
  whole : m.v2 ≡ true → m.total % m.piece_length ≡ 0
  each : m.v2 ≡ true → Each (OnPiece m.piece_length) m.files

module _ (m : Model) (a : Addition) (total : m.total ≡ sum (sizes m)) (links : Each LinkEmpty m.files) (p : Pieces m) where
  -- where v1 or v2 is open, there are no bytes yet
  open-empty : is_left_open m.total m.links (files_of m) ≡ true → m.total ≡ 0
  open-empty e = at (eqb m.total 0) refl e
    where
      at : (b : Bool) → eqb m.total 0 ≡ b → (b || eqb m.links (files_of m)) ≡ true → m.total ≡ 0
      at true q e = eqb-true m.total 0 q
      at false q e = total ∙ all-linked m.files links (sym p.counted ∙ eqb-true m.links (files_of m) e)

  before : is_v2 m a ≡ true → (m.total % m.piece_length ≡ 0) × Each (OnPiece m.piece_length) m.files
  before e = at (decides (size_added a) a.link && is_left_open m.total m.links (files_of m)) refl e
    where
      at : (b : Bool) → (decides (size_added a) a.link && is_left_open m.total m.links (files_of m)) ≡ b → cond b (is_present a.root) m.v2 ≡ true
          → (m.total % m.piece_length ≡ 0) × Each (OnPiece m.piece_length) m.files
      at true q e =
          let z = open-empty (both_true (decides (size_added a) a.link) (is_left_open m.total m.links (files_of m)) q).1 in
          (rw z (zero-mod m.piece_length), all-empty m.piece_length m.files (sym total ∙ z))
      at false q e = (p.whole e, p.each e)

  pieces-added : Pieces (added m a)
  pieces-added =
      record {
        long = p.long;
        counted = omega (arith, p.counted, linked-append m.files (file_added m a ∷ pad_added (m.total + size_added a) (pad_of m a)), pad-link (m.total + size_added a) (pad_of m a), kept-link (keeps m a) a.link);
        whole = λ e. ap (λ (b : Bool). (m.total + size_added a + pad_after b m.piece_length (m.total + size_added a)) % m.piece_length) e ∙ pad-ends m.piece_length (m.total + size_added a) p.long;
        each = λ e. each_append (before e).1 (more (λ made some. (before e).0) (pad-pieces m.piece_length (m.total + size_added a) (pad_of m a)));
      }

-- a cleaning keeps all that counts here
module _ (m : Model) (f : File) where
  clean-on-piece : (n : ℕ) → OnPiece n f → OnPiece n (cleaned_in m f)
  clean-on-piece n p made some =
      let e = clean-same m (λ (g : File). g.size) (λ l g. refl) f in
      clean-same m (λ (g : File). g.offset % n) (λ l g. refl) f
      ∙ p (sym (clean-same m (λ (g : File). g.made) (λ l g. refl) f) ∙ made) (omega arith)

  uncleaned-empty : LinkEmpty (cleaned_in m f) → LinkEmpty f
  uncleaned-empty p held = sym (clean-same m (λ (g : File). g.size) (λ l g. refl) f) ∙ p (clean-held m f ∙ held)

pieces-cleaned : (m : Model) → Pieces m → Pieces (cleaned_of m)
pieces-cleaned m p =
    record {
      long = p.long;
      counted = p.counted ∙ ap sum (sym (clean-map m link_one (λ f. ap (λ (b : Bool). cond b 1 0) (clean-held m f))));
      whole = p.whole;
      each = λ e. each_map (cleaned_in m) (λ f. clean-on-piece m f m.piece_length) (p.each e);
    }

-- an earlier set's files come first, and nothing was trimmed there either
pieces : {m : Model} → Reached m → m.trimmed ≡ false → Each LinkEmpty m.files → Pieces m
pieces (opened n h k) t l =
    record { long = h; counted = refl; whole = λ e. absurd (false≢true e); each = λ e. absurd (false≢true e) }
pieces (addition {m} r rooms a p) t l =
    let q = each-front m.files (file_added m a ∷ pad_added (m.total + size_added a) (pad_of m a)) l in
    pieces-added m a (ends r).total q (pieces r t q)
pieces (trim {m} r) t l = at (tail_pad m.files) t l (λ t₁ l₁. pieces r t₁ l₁)
  where
    at : (o : Option ℕ) → (trimmed_if o m).trimmed ≡ false → Each LinkEmpty (trimmed_if o m).files → (m.trimmed ≡ false → Each LinkEmpty m.files → Pieces m) → Pieces (trimmed_if o m)
    at None t l ih = ih t l
    at (Some f) t l ih = absurd (false≢true (sym t))
pieces (cleaning {m} r) t l =
    pieces-cleaned m (pieces r t (each-unmap (cleaned_in m) (uncleaned-empty m) m.files l))

pub on-piece : {m : Model} → Reached m → m.trimmed ≡ false → m.v2 ≡ true → Each LinkEmpty m.files → Each (OnPiece m.piece_length) m.files
on-piece r t v l = (pieces r t l).each v
