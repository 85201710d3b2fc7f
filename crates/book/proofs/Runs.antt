-- The relation of calls is not empty: on every store each call that it knows has exactly one outcome and store after it,
-- from every newly opened set, whatever its tables hold, every list of calls has a run, a refused call can be made again on
-- longer tables, and after every list of calls an addition is refused as document 01's table says. Relies on the
-- definitions, on Agree.antt and on Lent.antt, and on `sound` and `reached` for what an addition and a cleaning answer.
use mathlib.Core.Path.{◌≡◌, refl, sym, ap, subst, ◌∙◌}
use mathlib.Core.Bool.{Bool, true, false, cond, not, ◌||◌}
use mathlib.Core.List.{List, [], ◌∷◌, ◌++◌, map}
use Prim.Native.Nat.{ℕ, ◌*◌, ◌≤◌, ◌<◌, max}
use native.Mathlib.Omega.{arith}
use lib.Dec.{eqb, ltb}
use lib.IntN.{pos}
use lib.ListN.{length, take, drop}
use borrow.Author.Tests.{ne_eqb, le-ltb, le-leb}
use Rattle.types.specs.Refusals.{value, outcome}
use Rattle.types.specs.Refusals as outcomes
use Rattle.tables.specs.Model.{Store, view_of}
use Rattle.rules.specs.Rules.{Rule, when, first_of}
use Rattle.rules.specs.Bounds.{bad_length, is_below}
use Rattle.rules.specs.Questions.{few_entries}
use Rattle.additions.specs.Addition.{Addition, added, adding_rules, lacks, text_of}
use Rattle.trim.specs.Trim.{tail_pad}
use Rattle.storage.specs.Opening.{new_storage, opened}
use Rattle.plan.specs.Write.{store_added}
use Rattle.change.specs.Changes.{Changed, changed_if}
use Rattle.change.specs.Rooms.{rooms_of}
use Rattle.plan.specs.Outcomes.{lacks_places, adding_number, add_stored}
use Rattle.trim.specs.Removal.{trim_stored, trimmed_by}
use Rattle.links.specs.Clean.{cleaned_of}
use Rattle.lookup.specs.Space.{space, link_count, lacks_space}
use Rattle.lookup.specs.Lookup.{lent, entries_of}
use Rattle.lists.specs.Lists.{cleared}
use Rattle.cleaning.specs.Cleaning.{cleaned_store, Cleaned, cleaned_to, cleaning_number, clean_stored}
use lib.Seq.{sets}
use Rattle.renames.specs.Renames.{Renamed, in_order, lacks_room, rename_file_answer, renamed_to, renames_of, state_of, words_of, texts_of}
use Rattle.renames.specs.Renames as renames
use Rattle.imports.specs.Imports.{Naming, has_negative, imported, import_filenames_answer}
use Rattle.sound.proofs.Added.Answer.{sound-holds, adding-number}
use Rattle.reached.proofs.Cleaned.Answer.{number_is, space-enough}
use Rattle.reached.proofs.Cleaned.{needed-is}
use Rattle.reached.proofs.Cleaned.Lent.{clean-lent}
use Rattle.book.specs.Book.{Call, add, trim, clean, rename, «import», Came, done, refused, Made}
use Rattle.book.specs.Calls.{came_of, store_after, cleaned_by, SameSet, Renames, no_entries, renames_after, SameRenames, Leads}
use Rattle.book.specs.Calls as calls
use Rattle.book.proofs.Lent.{same_self, same-through, names-self, names-through, Longer, longer}
use Rattle.book.proofs.Agree.{agrees, leaving, refusing, after_call, after-clean, trim_number}
use Rattle.book.proofs.Firsts.{places-kept, add-mark, trim-mark, clean-mark}

-- ---- one call

-- the calls that the relation knows; a cleaning is lent its work space
pub data Known : Type 0 where
  adding : Addition → Known
  trimming : Known
  cleaning : (marks stage path : List ℕ) → Known
  renaming : Naming → Known
  importing : List Naming → Known

abbrev pub call_of : Known → Call
call_of (adding a) = add a
call_of trimming = trim
call_of (cleaning marks stage path) = clean
call_of (renaming x) = rename x
call_of (importing xs) = «import» xs

-- what comes of a call, and the tables of the set and of its renames after it
pub record Answer : Type 0 where
  pub came : Came
  pub store : Store
  pub names : Renames

abbrev pub changing : Store → Renames → Changed → Answer
changing s r c = record { came = came_of c.says; store = store_after s.fs c; names = r }

abbrev pub naming : Store → Renames → renames.RenamesChanged → Answer
naming s r c = record { came = came_of c.says; store = s; names = renames_after r c }

-- what the function called says, and leaves
abbrev pub answer_of : Store → Renames → Known → Answer
answer_of s r (adding a) = changing s r (add_stored s a)
answer_of s r trimming = changing s r (trim_stored s)
answer_of s r (cleaning marks stage path) =
    changing s r (cleaned_by s (clean_stored (lent s.fs s.rows s.dirs s.text) marks stage path))
answer_of s r (renaming x) = naming s r (rename_file_answer s.fs r.rf r.entries r.text x.file x.name)
answer_of s r (importing xs) = naming s r (import_filenames_answer s.fs r.rf r.entries r.text xs)

abbrev pub entered : Known → Came → Made
entered k o = record { call = call_of k; came = o }

-- one step of the relation
abbrev pub Step : Store → Renames → Known → Answer → Type 0
Step s r k a = answer_of s r k ≡ a

-- the relation goes on by such steps and by lendings, and by nothing else
pub stepped : {n : ℕ} {made : List Made} {s : Store} {r : Renames} {a : Answer} (k : Known) → Leads n made s r → Step s r k a → Leads n (entered k a.came ∷ made) a.store a.names
stepped {n} {made} {s} {r} {a} k p q =
    subst (λ (x : Answer). Leads n (entered k x.came ∷ made) x.store x.names) q (at k)
  where
    at : (k : Known) → Leads n (entered k (answer_of s r k).came ∷ made) (answer_of s r k).store (answer_of s r k).names
    at (adding a) = calls.addition a (add_stored s a) p refl
    at trimming = calls.trim (trim_stored s) p refl
    at (cleaning marks stage path) = calls.cleaning marks stage path (clean_stored (lent s.fs s.rows s.dirs s.text) marks stage path) p refl
    at (renaming x) = calls.renaming x (rename_file_answer s.fs r.rf r.entries r.text x.file x.name) p refl
    at (importing xs) = calls.importing xs (import_filenames_answer s.fs r.rf r.entries r.text xs) p refl

-- the last call led to the tables of `left`; those at the end are they, or others lent after it that hold the same
pub record LastStep (n : ℕ) (made : List Made) (m : Made) (t : Store) (q : Renames) : Type 0 where
  pub before : Store
  pub names : Renames
  pub left : Answer
  pub known : Known
  pub leads : Leads n made before names
  pub step : Step before names known left
  pub call : entered known left.came ≡ m
  pub lent : SameSet left.store t
  pub lent-names : SameRenames left.names q

pub last_step : {n : ℕ} {made : List Made} {m : Made} {t : Store} {q : Renames} → Leads n (m ∷ made) t q → LastStep n made m t q
last_step (calls.addition {made} {s} {r} a c p e) =
    record { before = s; names = r; left = changing s r c; known = adding a; leads = p; step = ap (changing s r) (sym e); call = refl; lent = same_self _; lent-names = names-self _ }
last_step (calls.trim {made} {s} {r} c p e) =
    record { before = s; names = r; left = changing s r c; known = trimming; leads = p; step = ap (changing s r) (sym e); call = refl; lent = same_self _; lent-names = names-self _ }
last_step (calls.cleaning {made} {s} {r} marks stage path c p e) =
    record { before = s; names = r; left = changing s r (cleaned_by s c); known = cleaning marks stage path; leads = p; step = ap (λ (x : Cleaned). changing s r (cleaned_by s x)) (sym e); call = refl; lent = same_self _; lent-names = names-self _ }
last_step (calls.renaming {made} {s} {r} x c p e) =
    record { before = s; names = r; left = naming s r c; known = renaming x; leads = p; step = ap (naming s r) (sym e); call = refl; lent = same_self _; lent-names = names-self _ }
last_step (calls.importing {made} {s} {r} xs c p e) =
    record { before = s; names = r; left = naming s r c; known = importing xs; leads = p; step = ap (naming s r) (sym e); call = refl; lent = same_self _; lent-names = names-self _ }
last_step (calls.lending {made} {s} {t} {r} {q} p same also) =
    let l = last_step p in
    record {
      before = l.before;
      names = l.names;
      left = l.left;
      known = l.known;
      leads = l.leads;
      step = l.step;
      call = l.call;
      lent = same-through l.left.store s t l.lent same;
      lent-names = names-through l.left.names r q l.lent-names also;
    }

-- exactly one outcome, and one set of tables after it
pub record One (s : Store) (r : Renames) (k : Known) : Type 0 where
  pub answer : Answer
  pub step : Step s r k answer
  pub only : (a : Answer) → Step s r k a → a ≡ answer

pub came : (s : Store) (r : Renames) (k : Known) → One s r k
came s r k = record { answer = answer_of s r k; step = refl; only = λ a q. sym q }

-- no call changes whether the set keeps the first file of each piece
pub mark-kept : (s : Store) (r : Renames) (k : Known) {a : Answer} → Step s r k a → a.store.fs.indexed ≡ s.fs.indexed
mark-kept s r k {a} q = ap (λ (x : Answer). x.store.fs.indexed) (sym q) ∙ at k
  where
    at : (k : Known) → (answer_of s r k).store.fs.indexed ≡ s.fs.indexed
    at (adding a) = add-mark s a (add_stored s a) refl
    at trimming = trim-mark s (trim_stored s) refl
    at (cleaning marks stage path) = clean-mark s marks stage path (clean_stored (lent s.fs s.rows s.dirs s.text) marks stage path) refl
    at (renaming x) = refl
    at (importing xs) = refl

-- ---- lists of calls

-- calls made, and the tables they led to
pub record Reach : Type 0 where
  pub made : List Made
  pub store : Store
  pub names : Renames

abbrev pub further : Known → Reach → Reach
further k x =
    record {
      made = entered k (answer_of x.store x.names k).came ∷ x.made;
      store = (answer_of x.store x.names k).store;
      names = (answer_of x.store x.names k).names;
    }

-- after a list of calls, the latest first, on tables of a set and of renames
abbrev pub reach_of : Store → Renames → List Known → Reach
reach_of s r [] = record { made = []; store = s; names = r }
reach_of s r (k ∷ ks) = further k (reach_of s r ks)

pub record Played (n : ℕ) (s : Store) (r : Renames) (ks : List Known) : Type 0 where
  pub same : map (λ (m : Made). m.call) (reach_of s r ks).made ≡ map call_of ks
  pub leads : Leads n (reach_of s r ks).made (reach_of s r ks).store (reach_of s r ks).names

-- a set can be opened with every piece length from 1 on, and keep the first file of each piece or not
pub opens : (n : ℕ) (indexed : Bool) → 0 < n → opened (pos n) indexed ≡ value (new_storage n indexed)
opens n indexed h = rw (ne_eqb n 0 (λ e. omega arith))

pub played : (n : ℕ) (indexed : Bool) (s : Store) (r : Renames) → opened (pos n) indexed ≡ value s.fs → n ≤ 2147483647 → r.rf ≡ no_entries → (ks : List Known) → Played n s r ks
played n indexed s r e h z [] = record { same = refl; leads = calls.opening indexed h e z }
played n indexed s r e h z (k ∷ ks) =
    let x = played n indexed s r e h z ks in
    record {
      same = ap (λ (l : List Call). call_of k ∷ l) x.same;
      leads = stepped {a = answer_of (reach_of s r ks).store (reach_of s r ks).names k} k x.leads refl;
    }

-- ---- a refused call made again

-- a refusal leaves all tables as they were
still : (number : ℕ) (s t : Store) (i : ℕ) → came_of (changed_if number s t).says ≡ refused i → store_after s.fs (changed_if number s t) ≡ s
still number s t i =
    after_call (λ (m : Made) (u : Store). m.came ≡ refused i → u ≡ s) trim number s t (λ z e. cc) (λ e. refl) (changed_if number s t) refl

still-clean : (s : Store) (marks stage path : List ℕ) (i : ℕ) → came_of (clean_stored (lent s.fs s.rows s.dirs s.text) marks stage path).says ≡ refused i → store_after s.fs (cleaned_by s (clean_stored (lent s.fs s.rows s.dirs s.text) marks stage path)) ≡ s
still-clean s marks stage path i =
    after-clean (λ (m : Made) (u : Store). m.came ≡ refused i → u ≡ s) s marks stage path (λ z e. cc) (λ k e. refl) (clean_stored (lent s.fs s.rows s.dirs s.text) marks stage path) refl

still-names : (k : ℕ) (rs : List Renamed) (r : Renames) (i : ℕ) → came_of (renames.renames_changed_if k rs r.entries r.text).says ≡ refused i → renames_after r (renames.renames_changed_if k rs r.entries r.text) ≡ r
still-names k rs r i e = at (eqb k 0) e
  where
    yes : renames.RenamesChanged
    yes = record { says = value (state_of rs); entries = sets r.entries 0 (words_of rs); text = sets r.text 0 (texts_of rs) }

    no : renames.RenamesChanged
    no = record { says = outcomes.refused k; entries = r.entries; text = r.text }

    at : (b : Bool) → came_of (cond b yes no).says ≡ refused i → renames_after r (cond b yes no) ≡ r
    at true q = let z : ◌≡◌ {A = ℕ} 0 1 = cc in absurd (omega arith)
    at false q = refl

-- the numbers that a rename and an import are refused by
abbrev pub rename_number : Store → Renames → Naming → ℕ
rename_number s r x =
    first_of
    (when (bad_length s.fs.piece_length) 1 ∷
    when (not (is_below s.fs.num_files x.file)) 11 ∷
    when (not (few_entries s.fs)) 10 ∷
    when (not (in_order r.rf r.entries r.text)) 10 ∷
    when (lacks_room (renamed_to x.file x.name (renames_of r.rf r.entries r.text)) r.entries r.text) 10 ∷ [])

abbrev pub import_number : Store → Renames → List Naming → ℕ
import_number s r xs =
    first_of
    (when (bad_length s.fs.piece_length) 1 ∷
    when (has_negative xs) 11 ∷
    when (not (few_entries s.fs)) 10 ∷
    when (not (in_order r.rf r.entries r.text)) 10 ∷
    when (lacks_room (imported s.fs.num_files xs (renames_of r.rf r.entries r.text)) r.entries r.text) 10 ∷ [])

refused-step : (s : Store) (r : Renames) (k : Known) (i : ℕ) → (answer_of s r k).came ≡ refused i → Step s r k (record { came = refused i; store = s; names = r })
refused-step s r k i e = ap (λ (o : Came). record { came = o; store = (answer_of s r k).store; names = (answer_of s r k).names }) e ∙ at k e
  where
    at : (k : Known) → (answer_of s r k).came ≡ refused i → ◌≡◌ {A = Answer} (record { came = refused i; store = (answer_of s r k).store; names = (answer_of s r k).names }) (record { came = refused i; store = s; names = r })
    at (adding a) e = ap (λ (u : Store). record { came = refused i; store = u; names = r }) (still (adding_number s (view_of s) a) s (store_added s (view_of s) a) i e)
    at trimming e = ap (λ (u : Store). record { came = refused i; store = u; names = r }) (still (trim_number s) s (trimmed_by (tail_pad (view_of s).files) s) i e)
    at (cleaning marks stage path) e = ap (λ (u : Store). record { came = refused i; store = u; names = r }) (still-clean s marks stage path i e)
    at (renaming x) e = ap (λ (u : Renames). record { came = refused i; store = s; names = u }) (still-names (rename_number s r x) (renamed_to x.file x.name (renames_of r.rf r.entries r.text)) r i e)
    at (importing xs) e = ap (λ (u : Renames). record { came = refused i; store = s; names = u }) (still-names (import_number s r xs) (imported s.fs.num_files xs (renames_of r.rf r.entries r.text)) r i e)

-- refused, by 10 for instance, on tables too short, it can be made again on longer ones, a cleaning with more work space too, and
-- the calls go on from there
pub again : {n : ℕ} {made : List Made} {s t : Store} {r q : Renames} {a : Answer} (k j : Known) (i : ℕ)
    → Leads n made s r → (answer_of s r k).came ≡ refused i → Longer s t → SameRenames r q → Step t q j a → Leads n (entered j a.came ∷ entered k (refused i) ∷ made) a.store a.names
again {s = s} {t = t} {r = r} k j i p e l same x =
    stepped j (calls.lending (stepped k p (refused-step s r k i e)) (longer s t (agrees p).sound (places-kept p) l) same) x

-- ---- what is refused, and what is not

-- document 01's rows for adding, in its order, on the set that the tables hold; room is lacking where the set after the
-- addition does not fit, or has more pieces than the table of first files has places. The first of `adding_rules` is the row for opening, which a set that was opened has passed
abbrev pub add_refusals : Store → Addition → List Rule
add_refusals s a =
    drop 1 (adding_rules (view_of s) a (lacks_places s (view_of s) a || lacks (rooms_of s) (added (view_of s) a) (text_of (added (view_of s) a))))

-- a cleaning lacks room where its work space is below document 01's, or the texts that the set has afterwards do not fit
abbrev pub clean_refusals : Store → (marks stage path : List ℕ) → List Rule
clean_refusals s marks stage path =
    when (lacks_space (entries_of s) (length marks) (length stage) (length path)) 10 ∷
    when (ltb (length s.text) (text_of (cleaned_of (view_of s)))) 10 ∷
    []

-- refused by a number, or done where that is 0
abbrev pub came_by : ℕ → Came
came_by k = cond (eqb k 0) done (refused k)

abbrev pub NoneHolds : List Rule → Type 0
NoneHolds [] = Unit {0}
NoneHolds (r ∷ rs) = (r.test ≡ false) × NoneHolds rs

none_first : (rs : List Rule) → NoneHolds rs → first_of rs ≡ 0
none_first [] h = refl
none_first (r ∷ rs) h = rw h.0 (none_first rs h.1)

-- after rows with lower numbers, a number comes from the last row alone
abbrev highest : List Rule → ℕ
highest [] = 0
highest (r ∷ rs) = max r.number (highest rs)

from_last : (k : ℕ) (rs : List Rule) (t : Bool) → highest rs < k → first_of (rs ++ (when t k ∷ [])) ≡ k → t ≡ true
from_last k [] true h e = refl
from_last k [] false h e = absurd (omega arith)
from_last k (r ∷ rs) t h e = from_last k rs t (omega arith) (at r.test e)
  where
    at : (b : Bool) → cond b r.number (first_of (rs ++ (when t k ∷ []))) ≡ k → first_of (rs ++ (when t k ∷ [])) ≡ k
    at true q = absurd (omega arith)
    at false q = q

refused-is : (k i : ℕ) → came_by k ≡ refused i → k ≡ i
refused-is k i e = at (eqb k 0) e
  where
    at : (b : Bool) → cond b done (refused k) ≡ refused i → k ≡ i
    at true q = let z : ◌≡◌ {A = ℕ} 0 1 = cc in absurd (omega arith)
    at false q = cc

came-if : (k : ℕ) (s t : Store) → came_of (changed_if k s t).says ≡ came_by k
came-if k s t = at (eqb k 0)
  where
    at : (b : Bool) → came_of (cond b (leaving t) (refusing k s)).says ≡ cond b done (refused k)
    at true = refl
    at false = refl

-- the same of a cleaning
came-clean : (s : Store) (marks stage path : List ℕ) → came_of (clean_stored s marks stage path).says ≡ came_by (cleaning_number s (length marks) (length stage) (length path))
came-clean s marks stage path = at (eqb number 0)
  where
    number : ℕ
    number = cleaning_number s (length marks) (length stage) (length path)

    cleaned : Cleaned
    cleaned =
        cleaned_to (value (cleaned_store (length stage) s).fs) (cleaned_store (length stage) s) (cleared marks) (cleared stage) (cleared path)

    at : (b : Bool) → came_of (cond b cleaned (cleaned_to (outcomes.refused number) s marks stage path)).says ≡ cond b done (refused number)
    at true = refl
    at false = refl

module _ {n : ℕ} {made : List Made} {s : Store} {r : Renames} (p : Leads n made s r) where
  pub good : bad_length s.fs.piece_length ≡ false
  good = let g = agrees p in rw (g.lengths, le-ltb n 1 g.some) (le-ltb 2147483647 n g.short)

  -- there are no more files and directories than there may be
  pub few : few_entries s.fs ≡ true
  few =
      let g = (agrees p).sound in
      rw (le-leb s.fs.num_files 65535 g.few-files, le-leb s.fs.num_paths 65535 g.few-paths)

  -- an addition is refused by the first row that holds, with its number, and done where none does
  pub add-answer : (a : Addition) → (answer_of s r (adding a)).came ≡ came_by (first_of (add_refusals s a))
  add-answer a =
      came-if (adding_number s (view_of s) a) s (store_added s (view_of s) a)
      ∙ ap came_by (adding-number s (agrees p).sound a ∙ ap (λ (b : Bool). cond b 1 (first_of (add_refusals s a))) good)

  -- so no set refuses every file: where no row holds, the addition is done
  pub add_done : (a : Addition) → NoneHolds (add_refusals s a) → (answer_of s r (adding a)).came ≡ done
  add_done a h = add-answer a ∙ ap came_by (none_first (add_refusals s a) h)

  -- nor is it refused by 10 with space to spare: only where the table of first files lacks a place, or the set after it
  -- does not fit
  pub add-ten : (a : Addition) → (answer_of s r (adding a)).came ≡ refused 10
      → (lacks_places s (view_of s) a || lacks (rooms_of s) (added (view_of s) a) (text_of (added (view_of s) a))) ≡ true
  add-ten a e =
      from_last 10 (take 9 (add_refusals s a)) (lacks_places s (view_of s) a || lacks (rooms_of s) (added (view_of s) a) (text_of (added (view_of s) a))) (omega arith)
      (refused-is (first_of (add_refusals s a)) 10 (sym (add-answer a) ∙ e))

  -- no trim
  pub trim-done : (trim_stored s).says ≡ value (trimmed_by (tail_pad (view_of s).files) s).fs
  trim-done = rw (good, sound-holds s (agrees p).sound)

  -- a cleaning likewise
  pub clean-answer : (marks stage path : List ℕ) → (answer_of s r (cleaning marks stage path)).came ≡ came_by (first_of (clean_refusals s marks stage path))
  clean-answer marks stage path =
      ap (λ (x : Cleaned). came_of x.says) (clean-lent s marks stage path)
      ∙ came-clean s marks stage path
      ∙ ap came_by (number_is s (length marks) (length stage) (length path) (agrees p).sound good)
      ∙ ap (λ (t : ℕ). came_by (cond (lacks_space (entries_of s) (length marks) (length stage) (length path)) 10 (cond (ltb (length s.text) t) 10 0))) (needed-is s (agrees p).sound)

  -- done with document 01's work space, and room for the texts that the set then has
  pub clean-done : (marks stage path : List ℕ) → link_count (entries_of s) ≤ length marks → space (entries_of s) ≤ length stage → 2 * space (entries_of s) ≤ length path
      → text_of (cleaned_of (view_of s)) ≤ length s.text → (answer_of s r (cleaning marks stage path)).came ≡ done
  clean-done marks stage path a b c room =
      clean-answer marks stage path
      ∙ ap came_by (none_first (clean_refusals s marks stage path) (space-enough s (length marks) (length stage) (length path) a b c, (le-ltb (length s.text) (text_of (cleaned_of (view_of s))) room, tt)))
