-- Laws of the run: what a line's numbers are bounded by, and what a line that is obeyed or refused does to the rest of the
-- run. They rely on the laws of `sound` for additions.
use Rattle.std.specs.Prelude.{Option, Some, None}
use Rattle.std.specs.Option.{unwrap_or}
use Rattle.std.specs.Iterator.{AlwaysYields}
use Rattle.std.proofs.Common.{Bor}
use Rattle.std.proofs.lemmas.Iterator.{YieldsList}
use Prim.Native.Nat.{ℕ, ◌+◌, ◌%◌, ◌≤◌, ◌<◌, ◌^◌}
use mathlib.Core.Path.{◌≡◌, refl, sym, ap, subst, ◌∙◌}
use mathlib.Core.Bool.{Bool, true, false, cond, ◌&&◌}
use mathlib.Core.List.{List, [], ◌∷◌}
use native.Mathlib.Omega.{arith}
use native.Mathlib.Nat.{mod-eq_of_lt}
use lib.Dec.{eqb, leb, ltb}
use lib.ListN.{length, get_or, drop, replicate}
use borrow.Author.Tests.{eqb-true, lt-ltb}
use Rattle.lists.specs.Lists.{part_of, ceiling}
use Rattle.lists.proofs.Parts.{part_length}
use Rattle.types.specs.declared.refusal.Refusal.TheVariants.{TooManyPieces}
use Rattle.types.specs.Refusals.{Outcome, value, refused}
use Rattle.tables.specs.declared.storage.FileStorage.{FileStorage}
use Rattle.tables.specs.Entry.{presence_if}
use Rattle.tables.specs.Model.{present_if, Model, Store, view_of, store_of}
use Rattle.rules.specs.Rules.{outcome_of}
use Rattle.additions.specs.Addition.{Addition, added, added_to, optional_of}
use Rattle.change.specs.declared.rooms.Rooms.{Rooms}
use Rattle.plan.specs.Write.{store_added}
use Rattle.change.specs.Changes.{Changed}
use Rattle.change.specs.Rooms.{rooms_of}
use Rattle.plan.specs.Outcomes.{adding_number, add_stored}
use Rattle.storage.specs.Opening.{new_storage, new_model}
use Rattle.sound.specs.Sound.{Sound}
use Rattle.sound.proofs.Added.Answer.{unindexed, adding}
use Rattle.sound.proofs.Added.{view-added, sound-added}
use Rattle.sound.proofs.Opened.{sound-opened, view-opened}
use Rattle.listing_input.specs.Form.{FileEntry, provided, only_if, number_in, piece_length_in, are_flags, entry_of, file_in}
use Rattle.listing.specs.Run.{addition_of, counted, go_on, opened_as, read_as, run_from, run_lines, run, places}
use Rattle.listing_output.specs.Output.{Run, listed, stopped}
use Rattle.std.specs.Prelude.{Ok, Err}
use Rattle.listing.specs.declared.run.Tables.{Tables}
use Rattle.listing.specs.private.Steps.{opened_by, obeyed, counted_by, store_in, run_in, Placed}
use Rattle.listing_input.proofs.Reading.{number_small}

-- a list of no elements
pub nil_is : (l : List ℕ) → length l ≡ 0 → l ≡ []
nil_is [] e = refl
nil_is (c ∷ l) e = absurd (omega arith)

-- the size in a file line
abbrev size_in : Option FileEntry → ℕ
size_in None = 0
size_in (Some e) = e.size

size_small : (b : Bool) (o f : Option ℕ) (path : List ℕ) → ((n : ℕ) → o ≡ Some n → n < 1000000000000000) → size_in (provided b (entry_of o f path)) < 1000000000000000
size_small false o f path h = omega arith
size_small true None f path h = omega arith
size_small true (Some n) None path h = omega arith
size_small true (Some n) (Some m) path h = h n refl

pub size_is : (line path : List ℕ) (size flags : ℕ) → Some (record { size = size; flags = flags; path = path }) ≡ file_in line → size % 2 ^ 63 ≡ size
size_is line path size flags e =
    let q : size ≡ size_in (file_in line) = ap size_in e in
    let b =
    size_small (leb 19 (length line) && (eqb (get_or line 15 0) 32 && eqb (get_or line 18 0) 32))
    (number_in (part_of line 0 15)) (only_if are_flags (number_in (part_of line 16 2))) (drop 19 line)
    (λ n p. number_small (part_of line 0 15) n (omega (arith, part_length line 0 15)) p) in
    mod-eq_of_lt (omega (arith, q))

-- the path of a file line stands from place 19 on
path-at : (b : Bool) (o f : Option ℕ) (path : List ℕ) (e : FileEntry) → provided b (entry_of o f path) ≡ Some e → e.path ≡ path
path-at false o f path e h = let z : ◌≡◌ {A = ℕ} 0 1 = cc in absurd (omega arith)
path-at true None f path e h = let z : ◌≡◌ {A = ℕ} 0 1 = cc in absurd (omega arith)
path-at true (Some n) None path e h = let z : ◌≡◌ {A = ℕ} 0 1 = cc in absurd (omega arith)
path-at true (Some n) (Some m) path e h =
    let z : record { size = n; flags = m; path = path } ≡ e = cc in
    sym (ap (λ (x : FileEntry). x.path) z)

pub path-is : (line : List ℕ) (e : FileEntry) → file_in line ≡ Some e → e.path ≡ drop 19 line
path-is line e h =
    path-at (leb 19 (length line) && (eqb (get_or line 15 0) 32 && eqb (get_or line 18 0) 32))
    (number_in (part_of line 0 15)) (only_if are_flags (number_in (part_of line 16 2))) (drop 19 line) e h

-- a root that flags give has 32 bytes
root-at : (b : Bool) (r : List ℕ) → present_if b (replicate 32 1) ≡ Some r → length r ≡ 32
root-at true r e = let q : replicate 32 1 ≡ r = cc in sym (ap length q)
root-at false r e = let z : ◌≡◌ {A = ℕ} 0 1 = cc in absurd (omega arith)

root_is : (e : FileEntry) (r : List ℕ) → (addition_of e).root ≡ Some r → length r ≡ 32
root_is e r p = root-at (leb 16 e.flags) r p

-- what flags say of a root, as a call brings it
pub root_by : (b : Bool) (root : List ℕ) → optional_of (presence_if b) root ≡ present_if b root
root_by true root = refl
root_by false root = refl

-- the run after the last line
pub counted_is : (fs : FileStorage) (t : Tables) (line : ℕ) → run_in (counted_by fs line) t ≡ counted line (view_of (store_in fs t))
counted_is fs t line = at (ltb 2147483647 (ceiling fs.total_size fs.piece_length))
  where
    at : (b : Bool) → run_in (cond b (Err (record { refusal = TooManyPieces; line = line })) (Ok fs)) t ≡ cond b (stopped 13 line) (listed (view_of (store_in fs t)))
    at true = refl
    at false = refl

-- tables of these lengths have `places`
rooms-are : (s : Store) → Placed s.rows s.roots s.dirs s.text → rooms_of s ≡ places
rooms-are s p = rw (p.rows_are, p.roots-are, p.dirs-are, p.text-is)

-- what a change leaves, by whether its number is 0
abbrev changed_by : Bool → ℕ → Store → Store → Changed
changed_by b k s t =
    cond b (record { says = value t.fs; rows = t.rows; roots = t.roots; firsts = t.firsts; dirs = t.dirs; text = t.text })
    (record { says = refused k; rows = s.rows; roots = s.roots; firsts = s.firsts; dirs = s.dirs; text = s.text })

-- a line that is read and obeyed, or refused
abbrev pub new_store : FileStorage → Changed → Store
new_store fs t = store_of fs t.rows t.roots t.firsts t.dirs t.text

module _ (s : Store) (p : Placed s.rows s.roots s.dirs s.text) (ok : Sound s) (plain : s.fs.indexed ≡ false) (line : ℕ) (l : List ℕ) (ls : List (List ℕ)) where
  adding-is : (a : Addition) → added_to places (view_of s) a ≡ outcome_of (adding_number s (view_of s) a) (added (view_of s) a)
  adding-is a = ap (λ (r : Rooms). added_to r (view_of s) a) (sym (rooms-are s p)) ∙ adding s ok a (unindexed s (view_of s) a plain)

  next-is : run_from places line (view_of s) (l ∷ ls) ≡ read_as (file_in l) (line + 1) (λ e. go_on (added_to places (view_of s) (addition_of e)) (line + 1) (λ next. run_from places (line + 1) next ls))
  unfolding run_from
  next-is = refl

  -- the rest of the run, by what the line says
  abbrev after : Option FileEntry → Run
  after o = read_as o (line + 1) (λ e. go_on (added_to places (view_of s) (addition_of e)) (line + 1) (λ next. run_from places (line + 1) next ls))

  -- the rest of the run, by what an addition answers
  abbrev onward : Outcome Model → Run
  onward o = go_on o (line + 1) (λ next. run_from places (line + 1) next ls)

  module _ (a : Addition) where
    abbrev changed : Bool → Changed
    changed b = changed_by b (adding_number s (view_of s) a) s (store_added s (view_of s) a)

    abbrev answered : Bool → Outcome Model
    answered b = cond b (value (added (view_of s) a)) (refused (adding_number s (view_of s) a))

    stop-added : (k : ℕ) → (add_stored s a).says ≡ refused k → stopped k (line + 1) ≡ onward (added_to places (view_of s) a)
    stop-added k e = at (eqb (adding_number s (view_of s) a) 0) e ∙ sym (ap onward (adding-is a))
      where
        at : (b : Bool) → (changed b).says ≡ refused k → stopped k (line + 1) ≡ onward (answered b)
        at true q = let z : ◌≡◌ {A = ℕ} 0 1 = cc in absurd (omega arith)
        at false q = let z : k ≡ adding_number s (view_of s) a = cc in ap (λ (n : ℕ). stopped n (line + 1)) z

    go-added : ((r : List ℕ) → a.root ≡ Some r → length r ≡ 32) → (fs : FileStorage) → (add_stored s a).says ≡ value fs
        → Sound (new_store fs (add_stored s a)) × (fs.indexed ≡ false) × (run_from places (line + 1) (view_of (new_store fs (add_stored s a))) ls ≡ onward (added_to places (view_of s) a))
    go-added root fs e =
        let r = at (eqb (adding_number s (view_of s) a) 0) refl e in (r.0, r.1, r.2 ∙ sym (ap onward (adding-is a)))
      where
        at : (b : Bool) → eqb (adding_number s (view_of s) a) 0 ≡ b → (changed b).says ≡ value fs
            → Sound (new_store fs (changed b)) × (fs.indexed ≡ false) × (run_from places (line + 1) (view_of (new_store fs (changed b))) ls ≡ onward (answered b))
        at true t q =
            let zero = eqb-true (adding_number s (view_of s) a) 0 t in
            let z : fs ≡ (store_added s (view_of s) a).fs = cc in
            let same : new_store fs (changed true) ≡ store_added s (view_of s) a = ap (λ (f : FileStorage). new_store f (changed true)) z in (
              subst (λ (x : Store). Sound x) (sym same) (sound-added s a ok zero root),
              ap (λ (f : FileStorage). f.indexed) z ∙ plain,
              ap (λ (x : Store). run_from places (line + 1) (view_of x) ls) same ∙ ap (λ (m : Model). run_from places (line + 1) m ls) (view-added s a ok zero root),
            )
        at false t q = let z : ◌≡◌ {A = ℕ} 0 1 = cc in absurd (omega arith)

  stop-at : (o : Option FileEntry) (k : ℕ) → (obeyed o s).says ≡ refused k → stopped k (line + 1) ≡ after o
  stop-at None k e = let q : k ≡ 17 = cc in ap (λ (n : ℕ). stopped n (line + 1)) q
  stop-at (Some f) k e = stop-added (addition_of f) k e

  go-at : (o : Option FileEntry) (fs : FileStorage) → (obeyed o s).says ≡ value fs
      → Sound (new_store fs (obeyed o s)) × (fs.indexed ≡ false) × (run_from places (line + 1) (view_of (new_store fs (obeyed o s))) ls ≡ after o)
  go-at None fs e = let z : ◌≡◌ {A = ℕ} 0 1 = cc in absurd (omega arith)
  go-at (Some f) fs e = go-added (addition_of f) (root_is f) fs e

-- the run at a line: the lines before it are obeyed, their number is `line`, and those that are still to come make the whole
pub record Going {I : Type 0} (steps : I → Option (Bor (List ℕ)) → I → Type 0) (whole : Run) (it : I) (line : ℕ) (s : Store) : Type 0 where
  pub left : List (List ℕ)
  pub yields : AlwaysYields steps (λ l. l.now) it left
  pub after_line : line + length left ≤ 65537
  pub placed : Placed s.rows s.roots s.dirs s.text
  pub sound : Sound s
  pub unindexed : s.fs.indexed ≡ false
  pub rest : run_from places line (view_of s) left ≡ whole

-- what is to come, where a line comes or none does
module _ {I : Type 0} (steps : I → Option (Bor (List ℕ)) → I → Type 0) (it next : I) where
  none-left : (left : List (List ℕ)) → AlwaysYields steps (λ l. l.now) it left → steps it None next → left ≡ []
  none-left [] y k = refl
  none-left (l ∷ ls) y k = absurd (y.0 next k)

  line-left : (x : Bor (List ℕ)) (left : List (List ℕ)) → AlwaysYields steps (λ l. l.now) it left → steps it (Some x) next
      → (ls : List (List ℕ)) × (left ≡ x.now ∷ ls) × AlwaysYields steps (λ l. l.now) next ls
  line-left x [] y k = absurd (y x next k)
  line-left x (l ∷ ls) y k = let m = y.1 x next k in (ls, ap (λ (i : List ℕ). i ∷ ls) (sym m.0), m.1)

module _ {I : Type 0} (steps : I → Option (Bor (List ℕ)) → I → Type 0) (whole : Run) (it : I) (line : ℕ) (s : Store)
    (g : Going steps whole it line s) (next : I) (r : Option (Bor (List ℕ))) (step : steps it r next) where
  -- no line is left
  pub run_ends : r ≡ None → counted line (view_of s) ≡ whole
  unfolding run_from
  run_ends e =
      let n = none-left steps it next g.left g.yields (subst (λ (o : Option (Bor (List ℕ))). steps it o next) e step) in
      ap (λ (ls : List (List ℕ)). run_from places line (view_of s) ls) (sym n) ∙ g.rest

  module _ (x : Bor (List ℕ)) (e : r ≡ Some x) where
    more : (ls : List (List ℕ)) × (g.left ≡ x.now ∷ ls) × AlwaysYields steps (λ l. l.now) next ls
    more = line-left steps it next x g.left g.yields (subst (λ (o : Option (Bor (List ℕ))). steps it o next) e step)

    rest-next : run_from places line (view_of s) (x.now ∷ more.0) ≡ whole
    rest-next = ap (λ (ls : List (List ℕ)). run_from places line (view_of s) ls) (sym more.1) ∙ g.rest

    pub lines-few : line + 1 ≤ 65537
    lines-few = omega (arith, g.after_line, ap length more.1)

    module _ (t : Changed) (answers : t ≡ obeyed (file_in x.now) s) where
      -- a line is refused
      pub run-stops : (k : ℕ) → t.says ≡ refused k → stopped k (line + 1) ≡ whole
      run-stops k h =
          stop-at s g.placed g.sound g.unindexed line x.now more.0 (file_in x.now) k (sym (ap (λ (c : Changed). c.says) answers) ∙ h)
          ∙ sym (next-is s g.placed g.sound g.unindexed line x.now more.0)
          ∙ rest-next

      -- a line is obeyed
      pub run-goes : (fs : FileStorage) → t.says ≡ value fs → Placed t.rows t.roots t.dirs t.text → Going steps whole next (line + 1) (new_store fs t)
      run-goes fs h p =
          let m = go-at s g.placed g.sound g.unindexed line x.now more.0 (file_in x.now) fs (sym (ap (λ (c : Changed). c.says) answers) ∙ h) in
          record {
            left = more.0;
            yields = more.2;
            after_line = omega (arith, g.after_line, ap length more.1);
            placed = p;
            sound = subst (λ (c : Changed). Sound (new_store fs c)) (sym answers) m.0;
            unindexed = m.1;
            rest =
                ap (λ (c : Changed). run_from places (line + 1) (view_of (new_store fs c)) more.0) answers
                ∙ m.2
                ∙ sym (next-is s g.placed g.sound g.unindexed line x.now more.0)
                ∙ rest-next;
          }

-- the first line
module _ (input : List ℕ) where
  pub run_long : 65536 < length input → stopped 17 0 ≡ run places input
  run_long h = rw (lt-ltb 65536 (length input) h)

  module _ (l : List ℕ) (ls : List (List ℕ)) (run-first : run_lines places (l ∷ ls) ≡ run places input) where
    pub first_stops : (j : ℕ) → opened_by (piece_length_in l) ≡ refused j → stopped j 1 ≡ run places input
    first_stops j o = stop (piece_length_in l) o ∙ run-first
      where
        stop : (x : Option ℕ) → opened_by x ≡ refused j → stopped j 1 ≡ read_as x 1 (λ m. go_on (opened_as m) 1 (λ y. run_from places 1 y ls))
        stop None q = let z : j ≡ 17 = cc in ap (λ (i : ℕ). stopped i 1) z
        stop (Some m) q = at (eqb m 0) q
          where
            at : (b : Bool) → cond b (refused 1) (value (new_storage m false)) ≡ refused j → stopped j 1 ≡ go_on (cond b (refused 1) (value (new_model m))) 1 (λ y. run_from places 1 y ls)
            at true r = let z : j ≡ 1 = cc in ap (λ (i : ℕ). stopped i 1) z
            at false r = let z : ◌≡◌ {A = ℕ} 0 1 = cc in absurd (omega arith)

    pub first_goes : (fs : FileStorage) → opened_by (piece_length_in l) ≡ value fs → (m : ℕ) × (fs ≡ new_storage m false) × (run_from places 1 (new_model m) ls ≡ run places input)
    first_goes fs o = let r = go (piece_length_in l) o in (r.0, r.1, r.2 ∙ run-first)
      where
        go : (x : Option ℕ) → opened_by x ≡ value fs → (m : ℕ) × (fs ≡ new_storage m false) × (run_from places 1 (new_model m) ls ≡ read_as x 1 (λ i. go_on (opened_as i) 1 (λ y. run_from places 1 y ls)))
        go None q = let z : ◌≡◌ {A = ℕ} 0 1 = cc in absurd (omega arith)
        go (Some m) q = let r = at (eqb m 0) q in (m, r.0, r.1)
          where
            at : (b : Bool) → cond b (refused 1) (value (new_storage m false)) ≡ value fs → (fs ≡ new_storage m false) × (run_from places 1 (new_model m) ls ≡ go_on (cond b (refused 1) (value (new_model m))) 1 (λ y. run_from places 1 y ls))
            at true r = let z : ◌≡◌ {A = ℕ} 0 1 = cc in absurd (omega arith)
            at false r = let z : fs ≡ new_storage m false = cc in (z, refl)

    -- the set that the first line opens, in tables that hold anything
    pub first_opened : (t : Tables) (fs : FileStorage) → opened_by (piece_length_in l) ≡ value fs
        → Sound (store_in fs t) × (fs.indexed ≡ false) × (run_from places 1 (view_of (store_in fs t)) ls ≡ run places input)
    first_opened t fs o =
        let b = first_goes fs o in (
          subst (λ (f : FileStorage). Sound (store_in f t)) (sym b.1) (sound-opened b.0 false t.rows t.roots [] t.dirs t.text),
          ap (λ (f : FileStorage). f.indexed) b.1,
          ap (λ (f : FileStorage). run_from places 1 (view_of (store_in f t)) ls) b.1
              ∙ ap (λ (m : Model). run_from places 1 m ls) (view-opened b.0 false t.rows t.roots [] t.dirs t.text)
              ∙ b.2,
        )

-- the first of the lines, and those that come after it
pub record Begun {I : Type 0} (steps : I → Option (Bor (List ℕ)) → I → Type 0) (whole : Run) (it : I) (first : List ℕ) : Type 0 where
  pub others : List (List ℕ)
  pub yields : AlwaysYields steps (λ l. l.now) it others
  pub few : length others ≤ 65536
  pub run-is : run_lines places (first ∷ others) ≡ whole

pub begun : {I : Type 0} (steps : I → Option (Bor (List ℕ)) → I → Type 0) (it next : I) (r : Option (Bor (List ℕ))) (other : Bor (List ℕ)) (ls : List (List ℕ)) (whole : Run)
    → YieldsList steps (λ l. l.now) it ls → (0 < length ls) × (length ls ≤ 65537) × (run_lines places ls ≡ whole) → steps it r next → Begun steps whole next (unwrap_or r other).now
begun steps it next None other ls whole y h k = let n = none-left steps it next ls y.runs k in absurd (omega (arith, h.0, ap length n))
begun steps it next (Some x) other ls whole y h k =
    let m = line-left steps it next x ls y.runs k in
    record {
      others = m.0;
      yields = m.2;
      few = omega (arith, h.1, ap length m.1);
      run-is = ap (run_lines places) (sym m.1) ∙ h.2;
    }
