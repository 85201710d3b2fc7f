-- The plan of an addition, made on numbers and searches, is the one that the public definitions give on the model that the
-- tables mean. They rely on the laws of rules and of directories.
use Rattle.std.specs.Prelude.{is_some, option_map, unwrap_or}
use Rattle.std.specs.Bool.{then_some}
use Rattle.std.specs.Option.{option_map_or}
use Rattle.std.proofs.Common.{◌≡◌, ℕ, suc, ◌+◌, ◌≤◌, Bool, true, false, cond, not, ◌||◌, eqb, ltb, Option, List, [], ◌∷◌, ◌++◌, length, sym, refl, ap, ◌∙◌, arith, length-append}
use mathlib.Core.Bool.{or_assoc}
use borrow.Author.Tests.{not-false}
use Rattle.lists.specs.Lists.{equal}
use Rattle.path.specs.Split.{has_parent_path, rsplit_branch, rsplit_leaf, is_complete, lsplit_first, lsplit_rest}
use Rattle.path.specs.Join.{is_empty}
use Rattle.types.specs.Refusals.{number_of, Outcome, value, refused}
use Rattle.types.specs.Signed.{zigzag}
use Rattle.types.specs.declared.refusal.Refusal.{Refusal}
use Rattle.types.proofs.Refusals.{numbered}
use Rattle.tables.specs.declared.storage.FileStorage.{FileStorage}
use Rattle.tables.specs.declared.rows.Presence.{Presence}
use Rattle.tables.specs.declared.rows.Presence.TheVariants.{Absent, Present}
use Rattle.tables.specs.Span.{text_at}
use Rattle.tables.specs.Entry.{is_here}
use Rattle.tables.specs.Model.{Directory, single, absolute, stored, File, Model, Store, tabled, file_of, view_of}
use Rattle.tables.proofs.Tabled.{length-tabled}
use Rattle.rules.specs.Rules.{Rule, when, first_of, outcome_of}
use Rattle.rules.specs.Bounds.{is_negative}
use Rattle.rules.proofs.Rules.{or_else, first-append, outcome-value, outcome-refused, either-false, passed}
use Rattle.change.specs.declared.rooms.Rooms.{Rooms}
use Rattle.change.specs.Rooms.{rooms_of, holds, files_room, dirs_room}
use Rattle.change.proofs.Held.{Held, held}
use Rattle.additions.specs.declared.checks.Sizes.{Sizes}
use Rattle.additions.specs.declared.info.FileInfo.{FileInfo}
use Rattle.additions.specs.declared.parts.PathKind.{PathKind}
use Rattle.additions.specs.declared.parts.PathKind.TheVariants.{Single, Absolute, Inside, Outside}
use Rattle.additions.specs.declared.parts.PathParts.{PathParts}
use Rattle.additions.specs.Addition.{Addition, addition_of, link_is_kept, optional_of, is_present, name_after, without_leading, directory_for, bad_name, decides, is_left_open, keeps, is_v2, pad_directory_name, is_among, with_directory, with_directory_of, pad_added, directory_added, added, lacks, size_rules, name_rules, version_rules, pad_rules, adding_rules, files_of, pad_of, file_added, size_added}
use Rattle.additions.specs.private.Texts.{name_from, link_text_of, set_text_of, text_under, directory_at, outside_kind}
use Rattle.additions.specs.Parts.{kind_for, name_span, parts_of}
use Rattle.additions.specs.private.Checks.{limited_length, pad_if, sizes_for, number_rules}
use Rattle.additions.proofs.Texts.{set-read, directory-read, name-read, name-is, limited-is, bad-is}
use Rattle.plan.specs.declared.dirs.DirPlan.{DirPlan}
use Rattle.plan.specs.declared.counts.Counts.{Counts}
use Rattle.plan.specs.declared.counts.FileFacts.{FileFacts}
use Rattle.plan.specs.declared.plan.TextSpans.{TextSpans}
use Rattle.plan.specs.declared.plan.TextLengths.{TextLengths}
use Rattle.plan.specs.declared.plan.AddPlan.{AddPlan}
use Rattle.plan.specs.Write.{set_text, directory_new, name_text, link_new, pad_directory_new, pad_text, new_text_of, is_outside, text_kept, text_after}
use Rattle.plan.specs.Outcomes.{lacks_places, adding_number}
use Rattle.plan.specs.private.Steps.{dir_plan_of, pad_dir_plan_of, dirs_after, counts_of, short_of, places_lack, text_spans_of, dir_texts, facts_of, lengths_of, planned_beside, TextsOf}
use Rattle.plan.specs.Plan.{plan_of, planned_for}
use Rattle.plan.proofs.Directories.{length-new}

-- ---- the texts

abbrev kind_by : Bool → Bool → Bool → PathKind
kind_by a b c = cond a Absolute (cond b Single (cond c Inside Outside))

abbrev directory_by : Bool → Bool → Bool → List ℕ → Directory
directory_by a b c branch = cond a absolute (cond b single (cond c (stored (without_leading (lsplit_rest branch)) false) (stored branch true)))

by_kind : (a b c : Bool) (branch : List ℕ) → directory_at (kind_by a b c) (text_under (kind_by a b c) branch) ≡ directory_by a b c branch
by_kind true b c branch = refl
by_kind false true c branch = refl
by_kind false false true branch = refl
by_kind false false false branch = refl

-- the directory of a path under a set's name
pub directory-is : (name path : List ℕ) → directory_at (kind_for name path) (text_under (kind_for name path) (rsplit_branch path)) ≡ directory_for name path
directory-is name path = by_kind (is_complete path) (is_empty (rsplit_branch path)) (equal (lsplit_first (rsplit_branch path)) name) (rsplit_branch path)

pub out-is : (kind : PathKind) (d : List ℕ) → outside_kind kind ≡ is_outside (directory_at kind d)
out-is Single d = refl
out-is Absolute d = refl
out-is Inside d = refl
out-is Outside d = refl

-- the texts of an addition, as the parts of its path give them
pub texts-of : (s : Store) (a : Addition) (p : PathParts)
    → p ≡ parts_of s.fs.num_files (view_of s).name a.path
    → TextsOf (view_of s) a (text_at a.path p.set_name) p.kind (text_at a.path p.directory)
    (name_from a.given (text_at a.path p.name))
    (link_text_of s.fs.num_symlinks a.link)
texts-of s a p ep =
    record {
      set_is =
          ap (λ (q : PathParts). text_at a.path q.set_name) ep
          ∙ set-read s.fs.num_files a.path
          ∙ ap (λ (n : ℕ). set_text_of n a.path) (sym count);
      dir-is =
          ap (λ (q : PathParts). directory_at q.kind (text_at a.path q.directory)) ep
          ∙ ap (directory_at (kind_for (name_after s.fs.num_files (view_of s).name a.path) a.path))
          (directory-read (kind_for (name_after s.fs.num_files (view_of s).name a.path) a.path) a.path)
          ∙ directory-is (name_after s.fs.num_files (view_of s).name a.path) a.path
          ∙ ap (λ (n : ℕ). directory_for (name_after n (view_of s).name a.path) a.path) (sym count);
      name-is =
          ap (λ (q : PathParts). name_from a.given (text_at a.path q.name)) ep
          ∙ name-is a.given a.path (text_at a.path (name_span a.path)) (name-read a.path);
      link-is = refl;
    }
  where
    count : files_of (view_of s) ≡ s.fs.num_files
    count = length-tabled s.fs.num_files (file_of s)

-- ---- the plan of a model

-- a model whose counts and sums are those of a set's record
abbrev pub seen : FileStorage → List ℕ → List File → List (List ℕ) → Model
seen fs name files directories =
    record {
      piece_length = fs.piece_length;
      v2 = fs.v2;
      name = name;
      files = files;
      directories = directories;
      links = fs.num_symlinks;
      total = fs.total_size;
      on_disk = fs.size_on_disk;
      trimmed = fs.trimmed;
    }

room : (r : Rooms) (n n' k : ℕ) (x : Bool) → n ≡ n' → (ltb (files_room r) n || (ltb (dirs_room r) k || x)) ≡ (short_of r n' k || x)
room r n n' k x p = rw p (at (ltb (files_room r) n') (ltb (dirs_room r) k))
  where
    at : (a b : Bool) → (a || (b || x)) ≡ ((a || b) || x)
    at true b = refl
    at false true = refl
    at false false = refl

few : {A : Type 0} (t : Bool) (x : A) → suc (length (cond t [] (x ∷ []))) ≡ cond t 1 2
few true x = refl
few false x = refl

length-pads : (files : List File) (f : File) (offset pad : ℕ) → length (files ++ (f ∷ pad_added offset pad)) ≡ length files + cond (eqb pad 0) 1 2
length-pads files f offset pad = length-append files (f ∷ pad_added offset pad) ∙ ap (λ (k : ℕ). length files + k) (few (eqb pad 0) _)

-- the length of a directory's text is 0 where that is not new
length-if-new : (t : Bool) (d : List ℕ) → unwrap_or (then_some (not t) (length (cond t [] d))) 0 ≡ length (cond t [] d)
length-if-new true d = refl
length-if-new false d = refl

length_of_directory : (d : Directory) (ds : List (List ℕ)) → unwrap_or (dir_plan_of d ds).new 0 ≡ length (new_text_of d ds)
length_of_directory single ds = refl
length_of_directory absolute ds = refl
length_of_directory (stored d outside) ds = length-if-new (is_among d ds) d

length_of_pads : (t : Bool) (d : List ℕ) → unwrap_or (then_some (not t) (length d)) 0 ≡ length (cond t [] d)
length_of_pads true d = refl
length_of_pads false d = refl

-- what is made of a value that is there by a test
map-then_some : {A B : Type 0} (f : A → B) (t : Bool) (x : A) → option_map f (then_some t x) ≡ then_some t (f x)
map-then_some f true x = refl
map-then_some f false x = refl

-- how many directories there are with a pad's, and how many files an addition is, by whether there is no pad
pads-directories : (t : Bool) (pad : ℕ) (ds : List (List ℕ))
    → option_map_or (λ p. p.count) (pad_dir_plan_of (then_some (not t) pad) ds) (length ds) ≡ length (cond t ds (with_directory pad_directory_name ds))
pads-directories true pad ds = refl
pads-directories false pad ds = refl

pads-count : (t : Bool) (pad : ℕ) → ◌≡◌ {A = ℕ} (cond (is_some (then_some (not t) pad)) 2 1) (cond t 1 2)
pads-count true pad = refl
pads-count false pad = refl

module _ (fs : FileStorage) (name : List ℕ) (files : List File) (ds : List (List ℕ)) (e : length files ≡ fs.num_files) (a : Addition) where
  abbrev m : Model
  m = seen fs name files ds

  abbrev sizes : Sizes
  sizes = record { size = size_added a; v2 = is_v2 m a; pad = pad_if (pad_of m a); file_end = fs.total_size + size_added a; total_size = fs.total_size + size_added a + pad_of m a }

  abbrev first : DirPlan
  first = dir_plan_of (directory_added m a) ds

  abbrev second : Option DirPlan
  second = pad_dir_plan_of sizes.pad (with_directory_of (directory_added m a) ds)

  abbrev lengths : TextLengths
  lengths = record { set_name = length (set_text m a); name = length (name_text m a); link = length (link_new m a) }

  abbrev spans : TextSpans
  spans =
      text_spans_of (text_kept fs)
      lengths.set_name (length (directory_new m a)) lengths.name lengths.link (length (pad_directory_new m a)) (length (pad_text m a))

  abbrev facts : FileFacts
  facts = record { flags = a.flags; keeps_link = keeps m a; has_root = is_present a.root; time = zigzag a.time }

  abbrev parts : PathParts
  parts = parts_of fs.num_files name a.path

  abbrev counts : Counts
  counts = counts_of fs sizes facts

  -- all rules but that of room are on numbers and the parts of the path
  abbrev rules_by : ℕ → Bool → Bool → List Rule
  rules_by limited bad no_room =
      size_rules fs.piece_length fs.total_size (is_negative a.size) (size_added a)
      ++ (name_rules (files_of m) limited bad (has_parent_path a.path)
      ++ (version_rules fs.v2 (decides (size_added a) a.link) (is_left_open fs.total_size fs.num_symlinks (files_of m)) (is_present a.root)
      ++ (pad_rules (fs.total_size + size_added a) (pad_of m a) ++ (when no_room 10 ∷ []))))

  pub rules-are : (no_room : Bool)
      → first_of (adding_rules m a no_room)
      ≡ or_else (first_of (number_rules fs a.given parts a.size a.link (is_present a.root))) (cond no_room 10 0)
  rules-are no_room =
      ap (λ (n : ℕ). first_of (rules_by n (bad_name a.given a.path) no_room)) (sym (limited-is a.given a.path))
      ∙ ap (λ (t : Bool). first_of (rules_by (limited_length a.given (length (rsplit_leaf a.path))) t no_room)) (sym (bad-is a.given (name_after fs.num_files name a.path) a.path))
      ∙ rw e
      (first-append (number_rules fs a.given parts a.size a.link (is_present a.root))
      (when no_room 10 ∷ [])
      refl)

  pub sizes-are : sizes_for fs a.size a.link (is_present a.root) ≡ sizes
  sizes-are = rw e

  -- the directory stands outside the set's name, as the kind of its path says
  outside-is : outside_kind parts.kind ≡ is_outside (directory_added m a)
  outside-is =
      out-is parts.kind (text_under parts.kind (rsplit_branch a.path))
      ∙ ap is_outside (directory-is (name_after fs.num_files name a.path) a.path)
      ∙ ap (λ (n : ℕ). is_outside (directory_for (name_after n name a.path) a.path)) (sym e)

  -- the plan by these numbers is the one by the public definitions
  pub planned-is : (rooms : Rooms)
      → planned_beside rooms ds (record { fs = fs; sizes = sizes; facts = facts; lengths = lengths; parts = parts }) (directory_added m a)
      ≡ outcome_of (cond (short_of rooms counts.num_files (dirs_after (record { file = first; pad = second })) || ltb rooms.text spans.end) 10 0) (plan_of fs m a)
  planned-is rooms = at (eqb (pad_of m a) 0) refl
    where
      at : (t : Bool) → eqb (pad_of m a) 0 ≡ t
          → planned_beside rooms ds (record { fs = fs; sizes = sizes; facts = facts; lengths = lengths; parts = parts }) (directory_added m a)
          ≡ outcome_of (cond (short_of rooms counts.num_files (dirs_after (record { file = first; pad = second })) || ltb rooms.text spans.end) 10 0) (plan_of fs m a)
      at true q = rw (q, outside-is, length_of_directory (directory_added m a) ds) (simp map-then_some)
      at false q =
          let ps = with_directory_of (directory_added m a) ds in
          rw (q, outside-is, length_of_directory (directory_added m a) ds, length-new (is_among pad_directory_name ps) pad_directory_name, length_of_pads (is_among pad_directory_name ps) pad_directory_name) (simp map-then_some)

  -- room is lacking where a count or the text's end passes it
  pub room-is : (rooms : Rooms)
      → lacks rooms (added m a) (text_after fs m a) ≡ (short_of rooms counts.num_files (dirs_after (record { file = first; pad = second })) || ltb rooms.text spans.end)
  room-is rooms =
      rw (pads-directories (eqb (pad_of m a) 0) (pad_of m a) (with_directory_of (directory_added m a) ds), pads-count (eqb (pad_of m a) 0) (pad_of m a))
      (room rooms (files_of (added m a)) _ _ (ltb rooms.text (text_after fs m a))
      (length-pads files (file_added m a) (fs.total_size + size_added a) (pad_of m a) ∙ ap (λ (n : ℕ). n + cond (eqb (pad_of m a) 0) 1 2) e))

-- ---- the same on the model that the tables mean

pub here-is : (p : Presence) (xs : List ℕ) → is_here p ≡ is_present (optional_of p xs)
here-is Absent xs = refl
here-is Present xs = refl

pub store-held : (s : Store) → holds s ≡ true → Held s.fs (rooms_of s)
store-held s h = held s.fs (rooms_of s) h

module _ (s : Store) (a : Addition) where
  abbrev dirs : List (List ℕ)
  dirs = dir_texts s.dirs s.text s.fs.num_paths

  abbrev before : ℕ
  before = first_of (number_rules s.fs a.given (parts_of s.fs.num_files (view_of s).name a.path) a.size a.link (is_present a.root))

  abbrev result : Outcome AddPlan
  result = planned_for s a

  -- the tables do not hold what the set counts, or the table of first files is too short
  abbrev pub full : Bool
  full = not (holds s) || lacks_places s (view_of s) a

  abbrev lacking : Bool
  lacking = lacks (rooms_of s) (added (view_of s) a) (text_after s.fs (view_of s) a)

  abbrev unheld : Bool
  unheld = not (holds s) || (lacks_places s (view_of s) a || lacking)

  count : length (tabled s.fs.num_files (file_of s)) ≡ s.fs.num_files
  count = length-tabled s.fs.num_files (file_of s)

  number_is : adding_number s (view_of s) a ≡ or_else before (cond unheld 10 0)
  number_is =
      rules-are s.fs (text_at s.text s.fs.name) (tabled s.fs.num_files (file_of s)) dirs count a unheld

  -- where no rule stops, the tables hold what the set counts
  pub add-held : adding_number s (view_of s) a ≡ 0 → s.fs.num_files ≤ 65535
  add-held e =
      let p = passed (adding_rules (view_of s) a unheld) refl (sym e) in
      let u : unheld ≡ false = p.1.1.1.1.1.1.1.1.1.1.0 in
      let h = store-held s (not-false (holds s) (either-false (not (holds s)) (lacks_places s (view_of s) a || lacking) u).0) in
      omega arith

  -- a rule before that of room stops
  pub add-stopped : {A : Type 0} (x : Refusal) (z : A) → refused (number_of x) ≡ outcome_of before z → refused (number_of x) ≡ result
  add-stopped x z h =
      let k : before ≡ number_of x = outcome-refused before (number_of x) z h in
      rw (number_is, k, numbered x, numbered x)

  -- the test of the code, by the sizes that it decided
  pub full_is : (z : Sizes) → z ≡ sizes_for s.fs a.size a.link (is_present a.root)
      → (not (holds s) || places_lack s.fs (length s.firsts) (z.total_size)) ≡ full
  full_is z e =
      ap (λ (v : Sizes). not (holds s) || places_lack s.fs (length s.firsts) v.total_size)
      (e ∙ sizes-are s.fs (text_at s.text s.fs.name) (tabled s.fs.num_files (file_of s)) dirs count a)

  module _ (p : before ≡ 0) where
    -- the test of room alone decides
    number_by_lem : (t : Bool) → full ≡ t → adding_number s (view_of s) a ≡ cond (t || lacking) 10 0
    number_by_lem t h =
        number_is
        ∙ ap (λ (n : ℕ). or_else n (cond unheld 10 0)) p
        ∙ ap (λ (b : Bool). cond b 10 0) (sym (or_assoc (not (holds s)) (lacks_places s (view_of s) a) lacking))
        ∙ ap (λ (b : Bool). cond (b || lacking) 10 0) h

    -- the tables do not hold what the set counts, or the table of first files lacks places
    pub add-full : full ≡ true → refused 10 ≡ result
    add-full h = rw (number_by_lem true h)

    module _ (h : full ≡ false) where
      number-held : adding_number s (view_of s) a ≡ cond lacking 10 0
      number-held = number_by_lem false h

      -- what the code decides, by sizes, facts, the directory, the lengths of the texts and the parts of the path
      abbrev decided : Sizes → FileFacts → Directory → TextLengths → PathParts → Outcome AddPlan
      decided z f d l p = planned_beside (rooms_of s) dirs (record { fs = s.fs; sizes = z; facts = f; lengths = l; parts = p }) d

      abbrev sizes_seen : Sizes
      sizes_seen = sizes s.fs (text_at s.text s.fs.name) (tabled s.fs.num_files (file_of s)) dirs count a

      abbrev facts_seen : FileFacts
      facts_seen =
          record { flags = a.flags; keeps_link = keeps (view_of s) a; has_root = is_present a.root; time = zigzag a.time }

      abbrev lengths_for : List ℕ → List ℕ → List ℕ → TextLengths
      lengths_for x y z = record { set_name = length x; name = length y; link = length z }

      abbrev directory : Directory
      directory = directory_added (view_of s) a

      abbrev parts_seen : PathParts
      parts_seen = parts_of s.fs.num_files (view_of s).name a.path

      decided-is : decided sizes_seen facts_seen directory (lengths_for (set_text (view_of s) a) (name_text (view_of s) a) (link_new (view_of s) a)) parts_seen ≡ result
      decided-is =
          planned-is s.fs (text_at s.text s.fs.name) (tabled s.fs.num_files (file_of s)) dirs count a (rooms_of s)
          ∙ ap (λ (t : Bool). outcome_of (cond t 10 0) (plan_of s.fs (view_of s) a))
          (sym (room-is s.fs (text_at s.text s.fs.name) (tabled s.fs.num_files (file_of s)) dirs count a (rooms_of s)))
          ∙ ap (λ (n : ℕ). outcome_of n (plan_of s.fs (view_of s) a)) (sym number-held)

      pub add-planned : (z : Sizes) (f : FileFacts) (kind : PathKind) (x dir name link : List ℕ) (p : PathParts)
          → z ≡ sizes_for s.fs a.size a.link (is_present a.root) → f ≡ facts_seen → p ≡ parts_seen
          → TextsOf (view_of s) a x kind dir name link
          → decided z f (directory_at kind dir) (lengths_for x name link) p ≡ result
      add-planned z f kind x dir name link p ez ef ep t =
          let q : z ≡ sizes_seen = ez ∙ sizes-are s.fs (text_at s.text s.fs.name) (tabled s.fs.num_files (file_of s)) dirs count a in
          ap (λ (v : Sizes). decided v f (directory_at kind dir) (lengths_for x name link) p) q
          ∙ ap (λ (v : FileFacts). decided sizes_seen v (directory_at kind dir) (lengths_for x name link) p) ef
          ∙ ap (λ (v : PathParts). decided sizes_seen facts_seen (directory_at kind dir) (lengths_for x name link) v) ep
          ∙ ap (λ (v : Directory). decided sizes_seen facts_seen v (lengths_for x name link) parts_seen) t.dir-is
          ∙ ap (λ (v : List ℕ). decided sizes_seen facts_seen directory (lengths_for v name link) parts_seen) t.set_is
          ∙ ap (λ (v : List ℕ). decided sizes_seen facts_seen directory (lengths_for (set_text (view_of s) a) v link) parts_seen) t.name-is
          ∙ ap (λ (v : List ℕ). decided sizes_seen facts_seen directory (lengths_for (set_text (view_of s) a) (name_text (view_of s) a) v) parts_seen) t.link-is
          ∙ decided-is

-- ---- the same by what a call brings and the parts of its path

pub record Called (s : Store) (file : FileInfo) (filename path link : List ℕ) (p : PathParts) : Type 0 where
  pub parts-are : p ≡ parts_of s.fs.num_files (view_of s).name path

module _ {s : Store} {file : FileInfo} {filename path link : List ℕ} {p : PathParts} (k : Called s file filename path link p) where
  abbrev call : Addition
  call = addition_of file filename path link

  -- what the tests on numbers and on the path say
  abbrev pub said : Outcome Sizes
  said =
      outcome_of (first_of (number_rules s.fs (optional_of file.given filename) p file.size link (is_here file.rooted)))
      (sizes_for s.fs file.size link (is_here file.rooted))

  said-is : said ≡ outcome_of (before s call) (sizes_for s.fs file.size link (is_present call.root))
  said-is = rw (k.parts-are, here-is file.rooted file.root.bytes)

  pub plan-stopped : (x : Refusal) → refused (number_of x) ≡ said → refused (number_of x) ≡ planned_for s call
  plan-stopped x h = add-stopped s call x (sizes_for s.fs file.size link (is_present call.root)) (h ∙ said-is)

  module _ {z : Sizes} (h : value z ≡ said) where
    settled : (before s call ≡ 0) × (z ≡ sizes_for s.fs file.size link (is_present call.root))
    settled = outcome-value (before s call) z (sizes_for s.fs file.size link (is_present call.root)) (h ∙ said-is)

    abbrev test : Bool
    test = not (holds s) || places_lack s.fs (length s.firsts) (z.total_size)

    pub plan-full : test ≡ true → refused 10 ≡ planned_for s call
    plan-full t = add-full s call settled.0 (sym (full_is s call z settled.1) ∙ t)

    pub plan-whole : test ≡ false
        → planned_beside (rooms_of s) (dir_texts s.dirs s.text s.fs.num_paths)
        (record { fs = s.fs; sizes = z; facts = facts_of s.fs file link; lengths = lengths_of s.fs.num_symlinks call.given path p link; parts = p })
        (directory_at p.kind (text_at path p.directory))
        ≡ planned_for s call
    plan-whole t =
        add-planned s call settled.0 (sym (full_is s call z settled.1) ∙ t) z (facts_of s.fs file link) p.kind
        (text_at path p.set_name)
        (text_at path p.directory)
        (name_from call.given (text_at path p.name))
        (link_text_of s.fs.num_symlinks link)
        p settled.1 facts-are k.parts-are
        (texts-of s call p k.parts-are)
      where
        facts-are : facts_of s.fs file link
            ≡ record { flags = file.flags; keeps_link = link_is_kept s.fs.num_symlinks link; has_root = is_present call.root; time = zigzag file.mtime }
        facts-are = rw (here-is file.rooted file.root.bytes)
