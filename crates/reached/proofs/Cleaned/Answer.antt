-- What a cleaning answers: it is done where there is work space and room for the texts, and on tables in order nothing else can be
-- lacking. Relies on the laws of rules in `sound` (Added/Answer.antt).
--     enough          a cleaning that is not refused has room for its texts, and its work space
--     number_is       the number on tables in order
--     clean-done      a cleaning with work space and room is done
use mathlib.Core.Path.{◌≡◌, ap, ◌∙◌}
use mathlib.Core.Bool.{Bool, true, false, cond, not, ◌&&◌}
use mathlib.Core.List.{List}
use Prim.Native.Nat.{ℕ, ◌*◌, ◌/◌, ◌≤◌}
use native.Mathlib.Omega.{arith}
use lib.Dec.{eqb, leb, ltb}
use lib.ListN.{length}
use borrow.Author.Tests.{le-leb, le-ltb, ltb-false}
use Rattle.types.specs.Refusals.{value, refused}
use Rattle.tables.specs.Model.{Store}
use Rattle.rules.specs.Bounds.{bad_length}
use Rattle.lookup.specs.Space.{space, link_count, lacks_space}
use Rattle.lookup.specs.Lookup.{entries_of}
use Rattle.rules.specs.Questions.{few_entries}
use Rattle.lists.specs.Lists.{cleared}
use Rattle.cleaning.specs.Cleaning.{cleaned_store, text_needed, cleaning_number, cleaned_to, clean_stored}
use Rattle.sound.specs.Sound.{Sound}
use Rattle.sound.proofs.Added.Answer.{pass-one, neither}

module _ (s : Store) (marks stage path : ℕ) where
  abbrev held : Bool
  held =
      (leb s.fs.num_files (length s.rows / 8)
      && (leb s.fs.num_paths (length s.dirs / 2) && leb s.fs.text_len (length s.text)))
      && few_entries s.fs

  abbrev lacks : Bool
  lacks = lacks_space (entries_of s) marks stage path

  -- the texts have no room
  abbrev unfit : Bool
  unfit = ltb (length s.text) (text_needed s)

  pub enough : cleaning_number s marks stage path ≡ 0 → (text_needed s ≤ length s.text) × (space (entries_of s) ≤ stage)
  enough e =
      let p = pass-one (bad_length s.fs.piece_length) 0 _ e in
      let q = pass-one (not held) 9 _ p.1 in
      let r = pass-one lacks 9 _ q.1 in
      let t = pass-one unfit 9 _ r.1 in
      let w = neither (ltb marks (link_count (entries_of s))) _ r.0 in
      (ltb-false (length s.text) (text_needed s) t.0, ltb-false stage (space (entries_of s)) (neither (ltb stage (space (entries_of s))) _ w.1).0)

  module _ (ok : Sound s) (good : bad_length s.fs.piece_length ≡ false) where
    all_held : held ≡ true
    all_held =
        rw (
          le-leb s.fs.num_files (length s.rows / 8) (omega (arith, ok.rows-hold)),
          le-leb s.fs.num_paths (length s.dirs / 2) (omega (arith, ok.dirs-hold)),
          le-leb s.fs.text_len (length s.text) ok.text-holds,
          le-leb s.fs.num_files 65535 ok.few-files,
        )
        (le-leb s.fs.num_paths 65535 ok.few-paths)

    pub number_is : cleaning_number s marks stage path ≡ cond (lacks_space (entries_of s) marks stage path) 10 (cond (ltb (length s.text) (text_needed s)) 10 0)
    number_is =
        ap (λ (b : Bool). cond b 1 (cond (not held) 10 (cond lacks 10 (cond unfit 10 0)))) good
        ∙ ap (λ (b : Bool). cond (not b) 10 (cond lacks 10 (cond unfit 10 0))) all_held

-- enough is a mark for each link, and three times the sum of document 01
pub space-enough : (s : Store) (marks stage path : ℕ) → link_count (entries_of s) ≤ marks → space (entries_of s) ≤ stage → 2 * space (entries_of s) ≤ path → lacks_space (entries_of s) marks stage path ≡ false
space-enough s marks stage path a b c =
    rw (le-ltb marks (link_count (entries_of s)) a, le-ltb stage (space (entries_of s)) b) (le-ltb path (2 * space (entries_of s)) c)

-- with work space enough and room for the texts, none of them stops
pub clean-done : (s : Store) (marks stage path : List ℕ) → Sound s → bad_length s.fs.piece_length ≡ false
    → lacks_space (entries_of s) (length marks) (length stage) (length path) ≡ false → text_needed s ≤ length s.text
    → clean_stored s marks stage path ≡ cleaned_to (value (cleaned_store (length stage) s).fs) (cleaned_store (length stage) s) (cleared marks) (cleared stage) (cleared path)
clean-done s marks stage path ok good work room =
    ap (λ (k : ℕ). cond (eqb k 0) (cleaned_to (value (cleaned_store (length stage) s).fs) (cleaned_store (length stage) s) (cleared marks) (cleared stage) (cleared path)) (cleaned_to (refused k) s marks stage path))
    (number_is s (length marks) (length stage) (length path) ok good
    ∙ ap (λ (b : Bool). cond b 10 (cond (ltb (length s.text) (text_needed s)) 10 0)) work
    ∙ ap (λ (b : Bool). cond b 10 0) (le-ltb (length s.text) (text_needed s) room))
