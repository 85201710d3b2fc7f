-- All steps of a cleaning, on tables in order, for any list of verdicts: first texts go, then texts are put. The tables stay in
-- order, each file has the text that its verdict gives, and the used part grows and shrinks by the texts' lengths. It relies on
-- Cleaned/Step.antt.
--     verdict_in                              the verdict of a file
--     changes, is_own, is_beside               whether a verdict changes a text, and how
--     amount                              a sum over files, by their verdicts
--     emptied-turned, rewritten-turned    the two passes
use Rattle.std.specs.Prelude.{Some}
use mathlib.Core.Path.{◌≡◌, refl, sym, ap, ap₂, subst, ◌∙◌}
use mathlib.Core.Bool.{Bool, true, false, cond}
use mathlib.Core.List.{List, [], ◌∷◌, ◌++◌}
use Prim.Native.Nat.{ℕ, ◌+◌, ◌-◌, ◌≤◌, ◌<◌}
use native.Mathlib.Omega.{arith}
use lib.Dec.{eqb}
use lib.ListN.{length, length-append}
use borrow.Author.Tests.{eqb-true, eqb-false, eq-eqb, ne_eqb, le-leb}
use Rattle.path.specs.Join.{is_alone, is_empty, is_closed, appended}
use Rattle.tables.specs.declared.span.Span.{Span}
use Rattle.tables.specs.declared.storage.FileStorage.{FileStorage}
use Rattle.tables.specs.Span.{end_of, text_at}
use Rattle.tables.specs.Rows.{row_at, directory_span, has}
use Rattle.tables.specs.Model.{present_if, Directory, single, absolute, stored, File, Store, file_of, path_in}
use Rattle.lookup.specs.Lookup.{Entry, entry_of, is_held, held_text}
use Rattle.links.specs.Clean.{linked_to}
use Rattle.links.specs.declared.mark.LinkVerdict.{LinkVerdict}
use Rattle.links.specs.declared.mark.LinkVerdict.TheVariants.{Keep, OwnPath, FromDirectory}
use Rattle.links.specs.Judging.{text_by}
use Rattle.texts.specs.Texts.{gone_at, linked, relinked, own_fits, beside_fits}
use Rattle.cleaning.specs.Cleaning.{emptied_at, emptied, rewritten_at, rewritten, if_changed}
use Rattle.sound.specs.Sound.{dir_name, file_name, link_text, Sound}
use Rattle.sound.proofs.Texts.{dir-span, name-span, link-span, text-length}
use Rattle.reached.proofs.Cleaned.Texts.{Turned, turned-self, turned_same, turned_then, at_file}
use Rattle.reached.proofs.Cleaned.Step.{gone-is, emptied-turn, linked-turn, relinked-turn}

-- ---- verdicts

-- whether a text changes, whether to the link's own path, and whether to the text from its directory
abbrev pub changes : LinkVerdict → Bool
changes Keep = false
changes OwnPath = true
changes FromDirectory = true

abbrev pub is_own : LinkVerdict → Bool
is_own Keep = false
is_own OwnPath = true
is_own FromDirectory = false

abbrev pub is_beside : LinkVerdict → Bool
is_beside Keep = false
is_beside OwnPath = false
is_beside FromDirectory = true

-- the verdict of file k, the first of the list being that of file i
abbrev pub verdict_in : List LinkVerdict → ℕ → ℕ → LinkVerdict
verdict_in [] i k = Keep
verdict_in (v ∷ vs) i k = cond (eqb k i) v (verdict_in vs (i + 1) k)

-- files before the list's first have none, the first has its own, those behind it theirs
verdict-before : (vs : List LinkVerdict) (i k : ℕ) → k < i → verdict_in vs i k ≡ Keep
verdict-before [] i k h = refl
verdict-before (v ∷ vs) i k h =
    ap (λ (b : Bool). cond b v (verdict_in vs (i + 1) k)) (ne_eqb k i (λ e. omega arith)) ∙ verdict-before vs (i + 1) k (omega arith)

pub verdict-here : (v : LinkVerdict) (vs : List LinkVerdict) (i : ℕ) → verdict_in (v ∷ vs) i i ≡ v
verdict-here v vs i = ap (λ (b : Bool). cond b v (verdict_in vs (i + 1) i)) (eq-eqb i i refl)

pub verdict-behind : (v : LinkVerdict) (vs : List LinkVerdict) (i k : ℕ) → i + 1 ≤ k → verdict_in (v ∷ vs) i k ≡ verdict_in vs (i + 1) k
verdict-behind v vs i k h = ap (λ (b : Bool). cond b v (verdict_in vs (i + 1) k)) (ne_eqb k i (λ e. omega arith))

-- what a pass does to a file, by its verdict
module _ (change : LinkVerdict → File → File) (same : (f : File) → change Keep f ≡ f) where
  -- a change of file i, and then of those behind it
  verdicts-then : (v : LinkVerdict) (vs : List LinkVerdict) (i k : ℕ) (f : File) → change (verdict_in vs (i + 1) k) (at_file i (change v) k f) ≡ change (verdict_in (v ∷ vs) i k) f
  verdicts-then v vs i k f = at (eqb k i) refl
    where
      at : (b : Bool) → eqb k i ≡ b → change (verdict_in vs (i + 1) k) (cond b (change v f) f) ≡ change (cond b v (verdict_in vs (i + 1) k)) f
      at true q = ap (λ (w : LinkVerdict). change w (change v f)) (verdict-before vs (i + 1) k (omega (arith, eqb-true k i q))) ∙ same (change v f)
      at false q = refl

-- ---- link texts

abbrev pub text_length : Store → ℕ → ℕ
text_length s k = length (entry_of (file_of s k)).text

-- a text is held where the row's flags say so
held-if : (b : Bool) (t : List ℕ) → is_held (present_if b t) ≡ b
held-if true t = refl
held-if false t = refl

held-row : (s : Store) (k : ℕ) → is_held (file_of s k).link ≡ true → has (row_at s.rows k).flags 16 ≡ true
held-row s k e = sym (held-if (has (row_at s.rows k).flags 16) (text_at s.text (row_at s.rows k).link)) ∙ e

-- a text is as long as its row says
pub text-len : (s : Store) → Sound s → (k : ℕ) → k < s.fs.num_files → text_length s k ≡ (row_at s.rows k).link.len
text-len s ok k h = at (has (row_at s.rows k).flags 16) refl
  where
    at : (b : Bool) → has (row_at s.rows k).flags 16 ≡ b → length (held_text (present_if b (text_at s.text (row_at s.rows k).link))) ≡ (row_at s.rows k).link.len
    at true q =
        ap (λ (x : Span). length (text_at s.text x)) (sym (link-span s k h)) ∙ text-length s ok (link_text k) ∙ ap (λ (x : Span). x.len) (link-span s k h)
    at false q = sym (ok.unlinked k h q)

-- and lies in the used part
link-inside : (s : Store) → Sound s → (k : ℕ) → k < s.fs.num_files → (row_at s.rows k).link.len ≤ s.fs.text_len
link-inside s ok k h = omega (arith, ok.within (link_text k), ap (λ (x : Span). x.len) (link-span s k h))

-- ---- sums over files by their verdicts

abbrev pub amount : (LinkVerdict → Entry → ℕ) → List LinkVerdict → ℕ → Store → ℕ
amount w [] i s = 0
amount w (v ∷ vs) i s = w v (entry_of (file_of s i)) + amount w vs (i + 1) s

-- sums over other files with the same summands
pub amount-same : (w x : LinkVerdict → Entry → ℕ) (vs : List LinkVerdict) (i : ℕ) (s t : Store)
    → ((k : ℕ) → i ≤ k → k < i + length vs → w (verdict_in vs i k) (entry_of (file_of s k)) ≡ x (verdict_in vs i k) (entry_of (file_of t k)))
    → amount w vs i s ≡ amount x vs i t
amount-same w x [] i s t e = refl
amount-same w x (v ∷ vs) i s t e = ap₂ ◌+◌ first (amount-same w x vs (i + 1) s t rest)
  where
    first : w v (entry_of (file_of s i)) ≡ x v (entry_of (file_of t i))
    first = rw (verdict-here v vs i) at (e i (omega arith) (omega arith))

    rest : (k : ℕ) → i + 1 ≤ k → k < i + 1 + length vs → w (verdict_in vs (i + 1) k) (entry_of (file_of s k)) ≡ x (verdict_in vs (i + 1) k) (entry_of (file_of t k))
    rest k a b = rw (verdict-behind v vs i k a) at (e k (omega arith) (omega arith))

-- ---- the first pass

abbrev pub emptied_file : LinkVerdict → File → File
emptied_file Keep f = f
emptied_file OwnPath f = linked_to (Some []) f
emptied_file FromDirectory f = f

-- the bytes of the texts that go
abbrev pub freed : LinkVerdict → Entry → ℕ
freed Keep f = 0
freed OwnPath f = length f.text
freed FromDirectory f = 0

-- what holds of one store and the next: files change, and so many bytes go and come
pub record Passed (s t : Store) (g : ℕ → File → File) (gone came : ℕ) : Type 0 where
  pub turned : Turned s t g
  pub used : t.fs.text_len + gone ≡ s.fs.text_len + came

-- a change that changes nothing
same-files : (i : ℕ) (k : ℕ) (f : File) → f ≡ at_file i (λ (g : File). g) k f
same-files i k f = at (eqb k i)
  where
    at : (b : Bool) → f ≡ cond b f f
    at true = refl
    at false = refl

module _ (s : Store) (ok : Sound s) (i : ℕ) (h : i < s.fs.num_files) where
  -- nothing happens
  idle : Passed s s (at_file i (λ (f : File). f)) 0 0
  idle = record { turned = turned_same (λ k b. same-files i k (file_of s k)) (turned-self s ok); used = refl }

  -- a text goes where the link's own path is to replace it
  empty-step : (v : LinkVerdict) → (is_own v ≡ true → is_held (file_of s i).link ≡ true) → Passed s (emptied_at v s i) (at_file i (emptied_file v)) (freed v (entry_of (file_of s i))) 0
  empty-step Keep held = idle
  empty-step OwnPath held =
      record {
        turned = emptied-turn s ok i h (held-row s i (held refl));
        used = omega (arith, ap (λ (x : Span). x.len) (gone-is s ok i h), text-len s ok i h, link-inside s ok i h);
      }
  empty-step FromDirectory held = idle

-- a step and the steps behind it
then : (change : LinkVerdict → File → File) → ((f : File) → change Keep f ≡ f) → (v : LinkVerdict) (vs : List LinkVerdict) (i : ℕ) {s t u : Store} {a b c d : ℕ}
    → Passed s t (at_file i (change v)) a b → Passed t u (λ k. change (verdict_in vs (i + 1) k)) c d → Passed s u (λ k. change (verdict_in (v ∷ vs) i k)) (a + c) (b + d)
then change same v vs i {s} p q =
    record {
      turned = turned_same (λ k h. verdicts-then change same v vs i k (file_of s k)) (turned_then p.turned q.turned);
      used = omega (arith, p.used, q.used);
    }

-- what stays of a file at another place
stays : {s t : Store} (g : File → File) (i : ℕ) → Turned s t (at_file i g) → (k : ℕ) → k < s.fs.num_files → (k ≡ i → ⊥) → file_of t k ≡ file_of s k
stays {s} {t} g i p k h d = p.files k h ∙ ap (λ (b : Bool). cond b (g (file_of s k)) (file_of s k)) (ne_eqb k i d)

-- so many files as before
count-is : {s t : Store} {g : ℕ → File → File} → Turned s t g → t.fs.num_files ≡ s.fs.num_files
count-is p = ap (λ (x : FileStorage). x.num_files) p.record_is

-- a file that keeps its text stays
emptied-none : (f : File) → emptied_file Keep f ≡ f
emptied-none f = refl

-- all of them, from file i on
pub emptied-turned : (vs : List LinkVerdict) (i : ℕ) (s : Store) → Sound s → i + length vs ≤ s.fs.num_files
    → ((k : ℕ) → i ≤ k → k < i + length vs → is_own (verdict_in vs i k) ≡ true → is_held (file_of s k).link ≡ true)
    → Passed s (emptied vs i s) (λ k. emptied_file (verdict_in vs i k)) (amount freed vs i s) 0
emptied-turned [] i s ok h e = record { turned = turned-self s ok; used = refl }
emptied-turned (v ∷ vs) i s ok h e =
    let p = empty-step s ok i (omega arith) v (λ q. e i (omega arith) (omega arith) (rw (verdict-here v vs i) q)) in
    let n = count-is p.turned in
    let same : (k : ℕ) → i + 1 ≤ k → k < i + 1 + length vs → file_of (emptied_at v s i) k ≡ file_of s k =
    λ k a b. stays (emptied_file v) i p.turned k (omega arith) (λ q. omega arith) in
    let r =
    emptied-turned vs (i + 1) (emptied_at v s i) p.turned.sound (omega arith)
    (λ k a b q. ap (λ (f : File). is_held f.link) (same k a b) ∙ e k (omega arith) (omega arith) (rw (verdict-behind v vs i k a) q)) in
    let z : amount freed vs (i + 1) (emptied_at v s i) ≡ amount freed vs (i + 1) s =
    amount-same freed freed vs (i + 1) (emptied_at v s i) s (λ k a b. ap (λ (f : File). freed (verdict_in vs (i + 1) k) (entry_of f)) (same k a b)) in
    subst (λ (x : ℕ). Passed s (emptied (v ∷ vs) i s) (λ k. emptied_file (verdict_in (v ∷ vs) i k)) (freed v (entry_of (file_of s i)) + x) 0) z
    (then emptied_file emptied-none v vs i p r)

-- ---- the second pass

abbrev pub rewritten_file : LinkVerdict → File → File
rewritten_file Keep f = f
rewritten_file OwnPath f = linked_to (Some (text_by OwnPath (entry_of f))) f
rewritten_file FromDirectory f = linked_to (Some (text_by FromDirectory (entry_of f))) f

-- by how much the new text is longer
abbrev pub grown : LinkVerdict → Entry → ℕ
grown v f = if_changed v (length (text_by v f) - length f.text)

-- joins are no shorter than what is joined
appended-longer : (b l : List ℕ) → length l ≤ length (appended b l)
appended-longer b l = at (is_alone b) (is_closed b)
  where
    joined : (k : List ℕ) (c : Bool) → length k ≤ length (b ++ cond c k (47 ∷ k))
    joined k true = omega (arith, length-append b k)
    joined k false = omega (arith, length-append b (47 ∷ k))

    some : (k : List ℕ) (c : Bool) → length k ≤ length (cond (is_empty k) b (b ++ cond c k (47 ∷ k)))
    some [] c = omega arith
    some (x ∷ k) c = joined (x ∷ k) c

    at : (a c : Bool) → length l ≤ length (cond a l (cond (is_empty l) b (b ++ cond c l (47 ∷ l))))
    at true c = omega arith
    at false c = some l c

beside-longer : (d : Directory) (t : List ℕ) → length t ≤ length (path_in d t)
beside-longer single t = omega arith
beside-longer absolute t = omega arith
beside-longer (stored d outside) t = appended-longer d t

-- a text from the link's directory is no shorter than the text itself
pub text-longer : (f : Entry) → length f.text ≤ length (text_by FromDirectory f)
text-longer f = beside-longer f.directory f.text

module _ (s : Store) (ok : Sound s) (i : ℕ) (h : i < s.fs.num_files) where
  abbrev given : LinkVerdict → List ℕ
  given v = text_by v (entry_of (file_of s i))

  -- the text is that of the file itself
  of-itself : (v : LinkVerdict) (k : ℕ) → k < s.fs.num_files → at_file i (linked_to (Some (given v))) k (file_of s k) ≡ at_file i (λ (f : File). linked_to (Some (text_by v (entry_of f))) f) k (file_of s k)
  of-itself v k b = at (eqb k i) refl
    where
      at : (c : Bool) → eqb k i ≡ c → cond c (linked_to (Some (given v)) (file_of s k)) (file_of s k) ≡ cond c (linked_to (Some (text_by v (entry_of (file_of s k)))) (file_of s k)) (file_of s k)
      at true q = ap (λ (j : ℕ). linked_to (Some (text_by v (entry_of (file_of s j)))) (file_of s k)) (sym (eqb-true k i q))
      at false q = refl

  -- what goes, and that this is in the used part
  gone : (gone_at s i).len ≡ (row_at s.rows i).link.len
  gone = ap (λ (x : Span). x.len) (gone-is s ok i h)

  inside : (row_at s.rows i).link.len ≤ s.fs.text_len
  inside = link-inside s ok i h

  -- the parts of the link's own path lie there
  branch-within : end_of (directory_span s.dirs (row_at s.rows i)) ≤ s.fs.text_len
  branch-within = at (eqb (row_at s.rows i).path_index 1073741823) (eqb (row_at s.rows i).path_index 1073741822) refl refl
    where
      at : (a b : Bool) → eqb (row_at s.rows i).path_index 1073741823 ≡ a → eqb (row_at s.rows i).path_index 1073741822 ≡ b → end_of (directory_span s.dirs (row_at s.rows i)) ≤ s.fs.text_len
      at true b p q = rw p (omega arith)
      at false true p q = rw (p, q) (omega arith)
      at false false p q =
          rw (p, q)
          (rw (dir-span s (row_at s.rows i).path_index (ok.placed i h (below _ (ok.indexed i h) (eqb-false _ _ p) (eqb-false _ _ q)))) at (ok.within (dir_name (row_at s.rows i).path_index)))
        where
          below : (j : ℕ) → j ≤ 1073741823 → (j ≡ 1073741823 → ⊥) → (j ≡ 1073741822 → ⊥) → j < 1073741822
          below j a b c = omega arith

  name-within : end_of (row_at s.rows i).name ≤ s.fs.text_len
  name-within = rw (name-span s i h) at (ok.within (file_name i))

  module _ (held : is_held (file_of s i).link ≡ true) where
    -- the link's own path is put where the old text is gone, and has its place
    module _ (bare : text_length s i ≡ 0) (room : s.fs.text_len + (length (given OwnPath) - text_length s i) ≤ length s.text) where
      own-step : Passed s (linked s i (given OwnPath)) (at_file i (rewritten_file OwnPath)) 0 (grown OwnPath (entry_of (file_of s i)))
      own-step =
          record {
            turned = turned_same (of-itself OwnPath) (linked-turn s ok i h (given OwnPath) (omega (arith, bare, text-len s ok i h)) (omega (arith, room, bare)) (held-row s i held));
            used = omega (arith, bare);
          }

      own-fits : own_fits s i (given OwnPath) ≡ true
      own-fits =
          rw (
            le-leb (end_of (directory_span s.dirs (row_at s.rows i))) s.fs.text_len branch-within,
            le-leb (end_of (row_at s.rows i).name) s.fs.text_len name-within,
          )
          (le-leb (length (given OwnPath)) (length s.text - s.fs.text_len) (omega (arith, room, bare)))

    -- the text from the link's directory is put in place of the old one, and has its place
    module _ (room : s.fs.text_len + (length (given FromDirectory) - text_length s i) ≤ length s.text) where
      longer : text_length s i ≤ length (given FromDirectory)
      longer = text-longer (entry_of (file_of s i))

      beside-step : Passed s (relinked s i (given FromDirectory)) (at_file i (rewritten_file FromDirectory)) 0 (grown FromDirectory (entry_of (file_of s i)))
      beside-step =
          record {
            turned = turned_same (of-itself FromDirectory) (relinked-turn s ok i h (given FromDirectory) (held-row s i held) (omega (arith, room, longer, text-len s ok i h, inside)));
            used = omega (arith, longer, gone, text-len s ok i h, inside);
          }

      beside-fits : (m : ℕ) → length (given FromDirectory) ≤ m → beside_fits m s i (given FromDirectory) ≡ true
      beside-fits m short =
          rw (le-leb (length (given FromDirectory)) m short)
          (le-leb (length (given FromDirectory)) (length s.text - (s.fs.text_len - (gone_at s i).len)) (omega (arith, room, text-len s ok i h, gone, inside)))

  -- a text is put where its verdict changes it
  rewrite-step : (m : ℕ) (v : LinkVerdict) → (changes v ≡ true → is_held (file_of s i).link ≡ true) → (is_own v ≡ true → text_length s i ≡ 0) → (is_beside v ≡ true → length (given v) ≤ m)
      → s.fs.text_len + grown v (entry_of (file_of s i)) ≤ length s.text → Passed s (rewritten_at m v s i) (at_file i (rewritten_file v)) 0 (grown v (entry_of (file_of s i)))
  rewrite-step m Keep held bare short room = idle s ok i h
  rewrite-step m OwnPath held bare short room =
      subst (λ (b : Bool). Passed s (cond b (linked s i (given OwnPath)) s) (at_file i (rewritten_file OwnPath)) 0 (grown OwnPath (entry_of (file_of s i))))
      (sym (own-fits (held refl) (bare refl) room))
      (own-step (held refl) (bare refl) room)
  rewrite-step m FromDirectory held bare short room =
      subst (λ (b : Bool). Passed s (cond b (relinked s i (given FromDirectory)) s) (at_file i (rewritten_file FromDirectory)) 0 (grown FromDirectory (entry_of (file_of s i))))
      (sym (beside-fits (held refl) room m (short refl)))
      (beside-step (held refl) room)

-- a file that keeps its text stays
rewritten-none : (f : File) → rewritten_file Keep f ≡ f
rewritten-none f = refl

-- all of them, from file i on, where no text gives way any more and there is room for the texts and in the stage
pub rewritten-turned : (m : ℕ) (vs : List LinkVerdict) (i : ℕ) (s : Store) → Sound s → i + length vs ≤ s.fs.num_files
    → ((k : ℕ) → i ≤ k → k < i + length vs → changes (verdict_in vs i k) ≡ true → is_held (file_of s k).link ≡ true)
    → ((k : ℕ) → i ≤ k → k < i + length vs → is_own (verdict_in vs i k) ≡ true → text_length s k ≡ 0)
    → ((k : ℕ) → i ≤ k → k < i + length vs → is_beside (verdict_in vs i k) ≡ true → length (text_by (verdict_in vs i k) (entry_of (file_of s k))) ≤ m)
    → s.fs.text_len + amount grown vs i s ≤ length s.text
    → Passed s (rewritten m vs i s) (λ k. rewritten_file (verdict_in vs i k)) 0 (amount grown vs i s)
rewritten-turned m [] i s ok h e z y r = record { turned = turned-self s ok; used = refl }
rewritten-turned m (v ∷ vs) i s ok h e z y r =
    let p =
    rewrite-step s ok i (omega arith) m v
    (λ q. e i (omega arith) (omega arith) (rw (verdict-here v vs i) q))
    (λ q. z i (omega arith) (omega arith) (rw (verdict-here v vs i) q))
    short
    (omega arith) in
    let n = count-is p.turned in
    let same : (k : ℕ) → i + 1 ≤ k → k < i + 1 + length vs → file_of (rewritten_at m v s i) k ≡ file_of s k =
    λ k a b. stays (rewritten_file v) i p.turned k (omega arith) (λ q. omega arith) in
    let x : amount grown vs (i + 1) (rewritten_at m v s i) ≡ amount grown vs (i + 1) s =
    amount-same grown grown vs (i + 1) (rewritten_at m v s i) s (λ k a b. ap (λ (f : File). grown (verdict_in vs (i + 1) k) (entry_of f)) (same k a b)) in
    let q =
    rewritten-turned m vs (i + 1) (rewritten_at m v s i) p.turned.sound (omega arith)
    (λ k a b q. ap (λ (f : File). is_held f.link) (same k a b) ∙ e k (omega arith) (omega arith) (rw (verdict-behind v vs i k a) q))
    (λ k a b q. ap (λ (f : File). length (entry_of f).text) (same k a b) ∙ z k (omega arith) (omega arith) (rw (verdict-behind v vs i k a) q))
    (λ k a b c. behind k a b (same k a b) c)
    (omega (arith, p.used, p.turned.long, x)) in
    subst (λ (y : ℕ). Passed s (rewritten m (v ∷ vs) i s) (λ k. rewritten_file (verdict_in (v ∷ vs) i k)) 0 (grown v (entry_of (file_of s i)) + y)) x
    (then rewritten_file rewritten-none v vs i p q)
  where
    short : is_beside v ≡ true → length (text_by v (entry_of (file_of s i))) ≤ m
    short q = rw (verdict-here v vs i) at (y i (omega arith) (omega arith) (rw (verdict-here v vs i) q))

    behind : (k : ℕ) → i + 1 ≤ k → k < i + 1 + length vs → file_of (rewritten_at m v s i) k ≡ file_of s k
        → is_beside (verdict_in vs (i + 1) k) ≡ true → length (text_by (verdict_in vs (i + 1) k) (entry_of (file_of (rewritten_at m v s i) k))) ≤ m
    behind k a b f q =
        subst (λ (x : File). length (text_by (verdict_in vs (i + 1) k) (entry_of x)) ≤ m) (sym f)
        (rw (verdict-behind v vs i k a) at (y k (omega arith) (omega arith) (rw (verdict-behind v vs i k a) q)))
