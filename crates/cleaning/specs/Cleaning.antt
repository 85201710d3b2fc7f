-- What a cleaning writes: the tables after it, word by word, for tables of any content. What becomes of each text is
-- said by the verdicts of links' Judging.antt, and how one text is written by Texts.antt of `texts`. 'What a … cleaning
-- frees is used': first the old text of each link whose verdict is its own path is removed, then each new text takes
-- the place of the old one, so that no step needs more room than the result.
use Rattle.std.specs.Prelude.{ℕ, ◌+◌, ◌-◌, cond, List, [], ◌∷◌, ◌++◌, eqb, ltb, length}
use Rattle.lists.specs.Lists.{cleared}
use Rattle.types.specs.Refusals.{Outcome, value, refused}
use Rattle.tables.specs.declared.storage.FileStorage.{FileStorage}
use Rattle.tables.specs.Model.{Store, file_of}
use Rattle.rules.specs.Rules.{when, first_of}
use Rattle.lookup.specs.Lookup.{Entry, entry_of, entries_of, directories_of}
use Rattle.links.specs.declared.mark.LinkVerdict.{LinkVerdict}
use Rattle.links.specs.declared.mark.LinkVerdict.TheVariants.{Keep, OwnPath, FromDirectory}
use Rattle.links.specs.Judging.{verdict_read, verdict_of, text_by, judging_rules}
use Rattle.texts.specs.Texts.{gone_at, relinked, with_own, with_beside}

-- ---- all links' texts

-- the verdict on each file; files that are no flagged links keep their texts
abbrev pub file_verdicts_for : List Entry → List (List ℕ) → List Entry → List LinkVerdict
file_verdicts_for files dirs [] = []
file_verdicts_for files dirs (f ∷ fs) =
    cond f.flagged (verdict_read (verdict_of files dirs f)) Keep ∷ file_verdicts_for files dirs fs

abbrev pub file_verdicts : Store → List LinkVerdict
file_verdicts s = file_verdicts_for (entries_of s) (directories_of s) (entries_of s)

-- the first pass: an old text that gives way to the link's own path is removed
abbrev pub emptied_at : LinkVerdict → Store → ℕ → Store
emptied_at Keep s i = s
emptied_at OwnPath s i = relinked s i []
emptied_at FromDirectory s i = s

-- on every file; the verdicts are those of the files from i on
abbrev pub emptied : List LinkVerdict → ℕ → Store → Store
emptied [] i s = s
emptied (v ∷ vs) i s = emptied vs (i + 1) (emptied_at v s i)

-- the second pass: a link's own path is appended, since its old text was removed; a text from the link's directory
-- replaces the old one. In tables that the other calls leave every new text fits where there is room for all; in tables
-- of any other content, a text that does not fit is not written. n is the scratch space's length
abbrev pub rewritten_at : ℕ → LinkVerdict → Store → ℕ → Store
rewritten_at n Keep s i = s
rewritten_at n OwnPath s i = with_own s i
rewritten_at n FromDirectory s i = with_beside n s i

abbrev pub rewritten : ℕ → List LinkVerdict → ℕ → Store → Store
rewritten n [] i s = s
rewritten n (v ∷ vs) i s = rewritten n vs (i + 1) (rewritten_at n v s i)

abbrev pub cleaned_store : ℕ → Store → Store
cleaned_store n s = rewritten n (file_verdicts s) 0 (emptied (file_verdicts s) 0 s)

-- ---- the text needed

-- n bytes for a text that changes, none for one that stays
abbrev pub if_changed : LinkVerdict → ℕ → ℕ
if_changed Keep n = 0
if_changed OwnPath n = n
if_changed FromDirectory n = n

-- what is left of u bytes of text after the old texts that change are removed
abbrev pub kept_after : List LinkVerdict → ℕ → Store → ℕ → ℕ
kept_after [] i s u = u
kept_after (v ∷ vs) i s u = kept_after vs (i + 1) s (u - if_changed v (gone_at s i).len)

-- the bytes of the new texts
abbrev pub new_bytes : List LinkVerdict → ℕ → Store → ℕ
new_bytes [] i s = 0
new_bytes (v ∷ vs) i s = if_changed v (length (text_by v (entry_of (file_of s i)))) + new_bytes vs (i + 1) s

abbrev pub text_needed : Store → ℕ
text_needed s = kept_after (file_verdicts s) 0 s s.fs.text_len + new_bytes (file_verdicts s) 0 s

-- ---- the call

-- the answer, each table that can change, and the work space
pub record Cleaned : Type 0 where
  pub says : Outcome FileStorage
  pub rows : List ℕ
  pub dirs : List ℕ
  pub text : List ℕ
  pub marks : List ℕ
  pub scratch : List ℕ
  pub walk_path : List ℕ

abbrev pub cleaning_of :
    Outcome FileStorage → List ℕ → List ℕ → List ℕ → List ℕ → List ℕ → List ℕ → Cleaned
cleaning_of says rows dirs text marks scratch walk_path =
    record {
      says = says;
      rows = rows;
      dirs = dirs;
      text = text;
      marks = marks;
      scratch = scratch;
      walk_path = walk_path;
    }

-- an answer with the tables of a store
abbrev pub cleaned_to : Outcome FileStorage → Store → List ℕ → List ℕ → List ℕ → Cleaned
cleaned_to says s marks scratch walk_path =
    cleaning_of says s.rows s.dirs s.text marks scratch walk_path

-- the refusals in order: those of the judgement, then 10 for a text area that is too short for the texts after the call
abbrev pub cleaning_number : Store → ℕ → ℕ → ℕ → ℕ
cleaning_number s marks scratch walk_path =
    first_of (judging_rules s marks scratch walk_path ++ (when (ltb (length s.text) (text_needed s)) 10 ∷ []))

-- `sanitize_symlinks`: a refusal leaves all that was lent as it was; else the work space is cleared
abbrev pub clean_stored : Store → List ℕ → List ℕ → List ℕ → Cleaned
clean_stored s marks scratch walk_path =
    cond (eqb (cleaning_number s (length marks) (length scratch) (length walk_path)) 0)
    (cleaned_to (value (cleaned_store (length scratch) s).fs) (cleaned_store (length scratch) s) (cleared marks)
    (cleared scratch) (cleared walk_path))
    (cleaned_to (refused (cleaning_number s (length marks) (length scratch) (length walk_path)))
    s marks scratch walk_path)
