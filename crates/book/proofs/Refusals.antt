-- After every list of calls each call is refused as document 01's table says, over the book alone. Relies on the book's agreement
-- with the set (Agree.antt), on what a call answers (Runs.antt, Named.antt) and on the laws of rules in order.
--     places-by-book                an addition for which the table of first files lacks a place
--     add-by-book, add-refusals     an addition
--     refusals-tabled               every call of a list
use Rattle.std.specs.Prelude.{Option, Some, None}
use Prim.Native.Nat.{ℕ, zero, suc, ◌+◌, ◌<◌}
use mathlib.Core.Path.{◌≡◌, refl, sym, ap, ap₂, subst, ◌∙◌}
use mathlib.Core.Logic.{inl, inr}
use mathlib.Core.Bool.{Bool, true, false, cond, not, ◌&&◌, ◌||◌}
use mathlib.Core.List.{List, [], ◌∷◌, ◌++◌}
use native.Mathlib.Omega.{arith}
use borrow.Author.Tests.{ne_eqb}
use lib.Dec.{eqb, ltb, leb}
use lib.IntN.{ℤ, pos, negsuc}
use lib.ListN.{length, drop}
use Rattle.lists.specs.Lists.{sum, any, ceiling}
use Rattle.path.specs.Split.{is_complete, has_parent_path}
use Rattle.tables.specs.Model.{Model, Store, view_of}
use Rattle.rules.specs.Rules.{Rule, when, first_of}
use Rattle.rules.specs.Bounds as bounds
use Rattle.rules.proofs.Rules.{Numbered, or_else, first-append}
use Rattle.change.specs.Changes.{Changed}
use Rattle.change.specs.Rooms.{rooms_of}
use Rattle.additions.specs.Addition.{Addition, added, adding_rules, lacks, text_of, size_added, pad_of, disagrees_in, files_of, decides, is_present}
use Rattle.additions.specs.Addition as additions
use Rattle.plan.specs.Outcomes.{lacks_places}
use Rattle.lookup.specs.Space.{lacks_space}
use Rattle.lookup.specs.Lookup.{entries_of}
use Rattle.links.specs.Clean.{cleaned_of}
use Rattle.cleaning.specs.Cleaning.{Cleaned}
use Rattle.renames.specs.Renames as renames
use Rattle.imports.specs.Imports.{Naming, imported}
use Rattle.sound.specs.Documents.{sizes}
use Rattle.book.specs.Book.{Came, Made, Book, book, is_plain, is_left_open, has_given_root}
use Rattle.book.specs.Refusals.{is_negative, bytes_padded, name_tested, bad_name, adding_table, has_row, renaming_table, importing_table, Says, AsTabled}
use Rattle.book.specs.Calls.{came_of, Renames, Leads}
use Rattle.book.specs.Calls as calls
use Rattle.book.proofs.Entries.{book_of, length-rows, held_link, natural-is, given_is, plain-is, bytes-with, open_is, pad-is}
use Rattle.book.proofs.Agree.{agrees, total-is}
use Rattle.book.proofs.Runs.{adding, trimming, cleaning, renaming, importing, answer_of, came_by, add-answer, trim-done, clean-answer}
use Rattle.book.proofs.Named.{rename-answer, import-answer}

-- ---- the port's words and the book's

negative-is : (z : ℤ) → bounds.is_negative z ≡ is_negative z
negative-is (pos n) = refl
negative-is (negsuc n) = refl

row_is : (b : Book) (z : ℤ) → bounds.is_below (length b.rows) z ≡ has_row b z
row_is b (pos n) = refl
row_is b (negsuc n) = refl

tested-is : (o : Option (List ℕ)) (path : List ℕ) → additions.limited_name o path ≡ name_tested o path
tested-is None path = refl
tested-is (Some name) path = refl

bad-is : (o : Option (List ℕ)) (path : List ℕ) → additions.bad_name o path ≡ bad_name o path
bad-is None path = refl
bad-is (Some name) path = ap (λ (b : Bool). (is_complete name || (b && is_complete path))) (held_link name)

any_same : (f g : Naming → Bool) → ((x : Naming) → f x ≡ g x) → (xs : List Naming) → any f xs ≡ any g xs
any_same f g e [] = refl
any_same f g e (x ∷ xs) = ap₂ (λ (a b : Bool). cond a true b) (e x) (any_same f g e xs)

-- 8 and 9, as two tests of which the second holds only where the first does not, and as two tests apart
versions : (plain free v2 root : Bool) (k : ℕ)
    → cond (disagrees_in v2 plain free root && v2) 8 (cond (disagrees_in v2 plain free root) 9 k)
    ≡ cond ((plain && not free) && (v2 && not root)) 8 (cond ((plain && not free) && (not v2 && root)) 9 k)
versions false free v2 root k = refl
versions true true v2 root k = refl
versions true false true true k = refl
versions true false true false k = refl
versions true false false true k = refl
versions true false false false k = refl

-- ---- the rows for adding

-- the number by the first six rows, or that of the others
abbrev six_rows : Bool → ℕ → ℕ → ℕ → Bool → Bool → ℕ → ℕ
six_rows negative size bytes name bad lone rest =
    cond negative 2
    (cond (ltb 281474976710655 size) 3
    (cond (ltb 281474976710655 bytes) 4 (cond (leb 4096 name) 5 (cond bad 6 (cond lone 7 rest)))))

-- that of the last three, and of room
abbrev last_rows : Bool → Bool → Bool → Bool → ℕ → Bool → ℕ
last_rows plain free v2 root bytes no_room =
    cond ((plain && not free) && (v2 && not root)) 8
    (cond ((plain && not free) && (not v2 && root)) 9 (cond (ltb 281474976710655 bytes) 4 (cond no_room 10 0)))

same-six : {n n' : Bool} {s s' b b' l l' : ℕ} {d d' o o' : Bool} {k k' : ℕ} → n ≡ n' → s ≡ s' → b ≡ b' → l ≡ l' → d ≡ d' → o ≡ o' → k ≡ k'
    → six_rows n s b l d o k ≡ six_rows n' s' b' l' d' o' k'
same-six en es eb el ed eo ek = cc

same-last : {p p' f f' r r' : Bool} {b b' : ℕ} (v o : Bool) → p ≡ p' → f ≡ f' → r ≡ r' → b ≡ b' → last_rows p f v r b o ≡ last_rows p' f' v r' b' o
same-last v o ep ef er eb = cc

module _ (m : Model) (a : Addition) (no_room : Bool) (total : m.total ≡ sum (sizes m)) (some : 0 < m.piece_length) where
  last-is : last_rows (decides (size_added a) a.link) (additions.is_left_open m.total m.links (files_of m)) m.v2 (is_present a.root) (m.total + size_added a + pad_of m a) no_room
      ≡ last_rows (is_plain a) (is_left_open (book_of m)) m.v2 (has_given_root a) (bytes_padded (book_of m) a) no_room
  last-is =
      same-last m.v2 no_room (plain-is a) (open_is m a total) (given_is a.root) (ap₂ (λ (x y : ℕ). x + y) (bytes-with m a total) (pad-is m a total some))

  table_is : first_of (drop 1 (adding_rules m a no_room)) ≡ first_of (adding_table (book_of m) a ++ (when no_room 10 ∷ []))
  table_is =
      same-six
      (negative-is a.size)
      (natural-is a.size)
      (bytes-with m a total)
      (ap length (tested-is a.given a.path))
      (bad-is a.given a.path)
      (ap (λ (k : ℕ). (not (has_parent_path a.path) && ltb 0 k)) (sym (length-rows m.files)))
      (versions (decides (size_added a) a.link) (additions.is_left_open m.total m.links (files_of m)) m.v2 (is_present a.root) (cond (ltb 281474976710655 (m.total + size_added a + pad_of m a)) 4 (cond no_room 10 0))
      ∙ last-is)

-- ---- what a table says of a call that is refused by its first row, or by 10 where room is lacking

says-by : (rs : List Rule) → Numbered rs → (no_room : Bool) → Says (first_of rs) (came_by (first_of (rs ++ (when no_room 10 ∷ []))))
says-by rs h no_room = rw (first-append rs (when no_room 10 ∷ []) h) (at (first_of rs) no_room)
  where
    at : (k : ℕ) (b : Bool) → Says k (came_by (or_else k (cond b 10 0)))
    at zero true = inr refl
    at zero false = inl refl
    at (suc k) b = let e : eqb (suc k) 0 ≡ false = ne_eqb (suc k) 0 (λ q. omega arith) in rw (e, e)

module _ {n : ℕ} {made : List Made} {s : Store} {r : Renames} (p : Leads n made s r) where
  -- whether the lent tables are shorter than the set after the addition needs
  abbrev pub lacking : Addition → Bool
  lacking a = lacks_places s (view_of s) a || lacks (rooms_of s) (added (view_of s) a) (text_of (added (view_of s) a))

  -- document 02 (v): 'An addition that needs more places in it gets 10', of the table of first files; a trim leaves the book
  -- fewer bytes, so it 'gives its places back'
  pub places-by-book : (a : Addition) → lacks_places s (view_of s) a ≡ (s.fs.indexed && ltb (length s.firsts) (ceiling (bytes_padded (book n made) a) n))
  places-by-book a =
      let g = agrees p in
      let e : s.fs.total_size + size_added a + pad_of (view_of s) a ≡ bytes_padded (book n made) a =
      ap₂ (λ (x y : ℕ). x + y) (bytes-with (view_of s) a (total-is s g.sound)) (pad-is (view_of s) a (total-is s g.sound) (omega (arith, g.some, g.lengths)))
      ∙ ap (λ (b : Book). bytes_padded b a) g.books in
      ap₂ (λ (x y : ℕ). (s.fs.indexed && ltb (length s.firsts) (ceiling x y))) e g.lengths

  -- an addition is refused by the first row that holds, of the book's rows and then of room, and done where none does
  pub add-by-book : (a : Addition) → (answer_of s r (adding a)).came ≡ came_by (first_of (adding_table (book n made) a ++ (when (lacking a) 10 ∷ [])))
  add-by-book a =
      let g = agrees p in
      add-answer p a
      ∙ ap came_by (table_is (view_of s) a (lacking a) (total-is s g.sound) (omega (arith, g.some, g.lengths)))
      ∙ ap (λ (b : Book). came_by (first_of (adding_table b a ++ (when (lacking a) 10 ∷ [])))) g.books

  pub add-refusals : (a : Addition) → Says (first_of (adding_table (book n made) a)) (answer_of s r (adding a)).came
  add-refusals a = rw (add-by-book a) (says-by (adding_table (book n made) a) refl (lacking a))

  trim-refusals : Says 0 (answer_of s r trimming).came
  trim-refusals = inl (ap came_of (trim-done p))

  clean-refusals : (marks stage path : List ℕ) → Says 0 (answer_of s r (cleaning marks stage path)).came
  clean-refusals marks stage path =
      rw (clean-answer p marks stage path)
      (at (lacks_space (entries_of s) (length marks) (length stage) (length path)) (ltb (length s.text) (text_of (cleaned_of (view_of s)))))
    where
      at : (a b : Bool) → Says 0 (came_by (first_of (when a 10 ∷ when b 10 ∷ [])))
      at true b = inr refl
      at false true = inr refl
      at false false = inl refl

  rename-refusals : (x : Naming) → Says (first_of (renaming_table (book n made) x)) (answer_of s r (renaming x)).came
  rename-refusals x =
      subst (λ (o : Came). Says (first_of (renaming_table (book n made) x)) o)
      (sym (rename-answer p x ∙ ap (λ (b : Bool). came_by (first_of (when (not b) 11 ∷ when full 10 ∷ []))) (row_is (book n made) x.file)))
      (says-by (renaming_table (book n made) x) refl full)
    where
      full : Bool
      full = renames.lacks_room (renames.renamed_to x.file x.name (renames.renames_of r.rf r.entries r.text)) r.entries r.text

  import-refusals : (xs : List Naming) → Says (first_of (importing_table xs)) (answer_of s r (importing xs)).came
  import-refusals xs =
      subst (λ (o : Came). Says (first_of (importing_table xs)) o)
      (sym (import-answer p xs ∙ ap (λ (b : Bool). came_by (first_of (when b 11 ∷ when full 10 ∷ []))) (any_same (λ (x : Naming). bounds.is_negative x.file) (λ (x : Naming). is_negative x.file) (λ x. negative-is x.file) xs)))
      (says-by (importing_table xs) refl full)
    where
      full : Bool
      full = renames.lacks_room (imported (length (book n made).rows) xs (renames.renames_of r.rf r.entries r.text)) r.entries r.text

-- every call of a list, with the book as it was before it
pub refusals-tabled : {n : ℕ} {made : List Made} {s : Store} {r : Renames} → Leads n made s r → AsTabled n made
refusals-tabled (calls.opening indexed h e z) = tt
refusals-tabled {n} (calls.addition {made} {s} {r} a c p e) =
    (subst (λ (x : Changed). Says (first_of (adding_table (book n made) a)) (came_of x.says)) (sym e) (add-refusals p a), refusals-tabled p)
refusals-tabled (calls.trim c p e) =
    (subst (λ (x : Changed). Says 0 (came_of x.says)) (sym e) (trim-refusals p), refusals-tabled p)
refusals-tabled (calls.cleaning marks stage path c p e) =
    (subst (λ (x : Cleaned). Says 0 (came_of x.says)) (sym e) (clean-refusals p marks stage path), refusals-tabled p)
refusals-tabled {n} (calls.renaming {made} x c p e) =
    (subst (λ (y : renames.RenamesChanged). Says (first_of (renaming_table (book n made) x)) (came_of y.says)) (sym e) (rename-refusals p x), refusals-tabled p)
refusals-tabled (calls.importing xs c p e) =
    (subst (λ (y : renames.RenamesChanged). Says (first_of (importing_table xs)) (came_of y.says)) (sym e) (import-refusals p xs), refusals-tabled p)
refusals-tabled (calls.lending p same names) = refusals-tabled p
