-- The judgement that goes before a cleaning: for every flagged link, what becomes of its text. Marks hold it as a
-- number; while links are judged they carry more than that (`first_mark`), afterwards the verdicts alone. It relies on
-- Clean.antt for the two passes, on `lookup` for the set that the lent tables hold, and on the rules in order of
-- `rules`.
use Rattle.std.specs.Prelude.{ℕ, ◌/◌, Bool, true, false, cond, ◌&&◌, List, [], ◌∷◌, eqb, length}
use Rattle.std.proofs.lemmas.List.Edits.{sets}
use Rattle.types.specs.Refusals.{Outcome, value, refused}
use Rattle.path.specs.Split.{is_complete}
use Rattle.path.specs.Join.{appended}
use Rattle.tables.specs.Model.{Directory, single, absolute, stored, path_in, Store}
use Rattle.rules.specs.Rules.{Rule, when, first_of}
use Rattle.rules.specs.Bounds.{bad_length}
use Rattle.rules.specs.Questions.{rows_are_held, dirs_held, text_held, few_entries, short}
use Rattle.lookup.specs.Lookup.{Entry, own_path, is_directory, file_at, entries_of}
use Rattle.lookup.specs.declared.set.Seen.{Seen}
use Rattle.lookup.specs.declared.set.Seen.TheVariants.{Nothing, RegularFile, FlaggedLink}
use Rattle.lookup.specs.Lookup.{directories_of}
use Rattle.lookup.specs.Space.{link_count, lacks_space}
use Rattle.links.specs.declared.mark.LinkVerdict.{LinkVerdict}
use Rattle.links.specs.declared.mark.LinkVerdict.TheVariants.{Keep, OwnPath, FromDirectory}
use Rattle.links.specs.Clean.{links_of, resolves}

-- ---- verdicts: what becomes of a link's text

-- the text that a verdict gives: the link's text, its own internal path, or the text from its directory
abbrev pub text_by : LinkVerdict → Entry → List ℕ
text_by Keep f = f.text
text_by OwnPath f = own_path f
text_by FromDirectory f = path_in f.directory f.text

-- ---- verdicts as marks hold them

abbrev pub verdict_keep : ℕ
verdict_keep = 0

abbrev pub verdict_own_path : ℕ
verdict_own_path = 1

-- a walk decides, in the second pass
abbrev pub verdict_walk : ℕ
verdict_walk = 3

-- the verdict that a number is read as
abbrev pub verdict_read : ℕ → LinkVerdict
verdict_read v = cond (eqb v verdict_keep) Keep (cond (eqb v verdict_own_path) OwnPath FromDirectory)

-- ---- marks of the first pass

-- m / 8 is the verdict, and m % 8 says how a walk goes through the link: 0 not, 1 by its text as given, 2 by its text
-- from its directory
abbrev pub keeps_text : ℕ
keeps_text = 0

abbrev pub keeps_text_and_leads : ℕ
keeps_text_and_leads = 1

abbrev pub own_path_taken : ℕ
own_path_taken = 8

abbrev pub from_directory : ℕ
from_directory = 16

abbrev pub from_directory_and_leads : ℕ
from_directory_and_leads = 18

abbrev pub walk_decides : ℕ
walk_decides = 25

abbrev pub settled_mark : Bool → Seen → ℕ → ℕ
settled_mark true s other = from_directory_and_leads
settled_mark false FlaggedLink other = from_directory_and_leads
settled_mark false RegularFile other = from_directory
settled_mark false Nothing other = other

abbrev pub direct_mark : Seen → Bool → ℕ → ℕ
direct_mark FlaggedLink d other = keeps_text_and_leads
direct_mark RegularFile d other = keeps_text
direct_mark Nothing true other = keeps_text_and_leads
direct_mark Nothing false other = other

abbrev pub relative_mark : List Entry → List (List ℕ) → Directory → List ℕ → ℕ → ℕ
relative_mark files dirs single t other = other
relative_mark files dirs absolute t other = other
relative_mark files dirs (stored d outside) t other =
    settled_mark (is_directory dirs (appended d t)) (file_at files (appended d t)) other

abbrev pub first_mark : List Entry → List (List ℕ) → Entry → ℕ
first_mark files dirs f =
    cond (is_complete f.text) own_path_taken
    (direct_mark (file_at files f.text) (is_directory dirs f.text)
    (relative_mark files dirs f.directory f.text walk_decides))

-- ---- the verdict on a link

abbrev pub verdict_of : List Entry → List (List ℕ) → Entry → ℕ
verdict_of files dirs f =
    cond (eqb (first_mark files dirs f / 8) verdict_walk)
    (cond (resolves files dirs (links_of files dirs files) f.text) verdict_keep verdict_own_path)
    (first_mark files dirs f / 8)

-- one verdict for each flagged link
abbrev pub verdicts_for : List Entry → List (List ℕ) → List Entry → List ℕ
verdicts_for files dirs [] = []
verdicts_for files dirs (f ∷ fs) =
    cond f.flagged (verdict_of files dirs f ∷ verdicts_for files dirs fs) (verdicts_for files dirs fs)

abbrev pub verdicts : Store → List ℕ
verdicts s = verdicts_for (entries_of s) (directories_of s) (entries_of s)

-- ---- the call

-- the refusals in order: 1, then 10 for the tables or the counts, and for the work space, which is given by its lengths
abbrev pub judging_rules : Store → ℕ → ℕ → ℕ → List Rule
judging_rules s marks scratch walk_path =
    when (bad_length s.fs.piece_length) 1 ∷
    short
    ((rows_are_held s.fs s.rows && (dirs_held s.fs s.dirs && text_held s.fs s.text)) && few_entries s.fs) ∷
    when (lacks_space (entries_of s) marks scratch walk_path) 10 ∷
    []

abbrev pub judging_number : Store → ℕ → ℕ → ℕ → ℕ
judging_number s marks scratch walk_path = first_of (judging_rules s marks scratch walk_path)

-- the answer, the number of flagged links, and the marks
pub record Judged : Type 0 where
  pub says : Outcome ℕ
  pub marks : List ℕ

abbrev pub judged_of : Outcome ℕ → List ℕ → Judged
judged_of says marks = record { says = says; marks = marks }

-- `judge_links`, with the lengths of a scratch space and a walk path: a refusal leaves the marks as they were; else
-- they begin with the verdicts
abbrev pub judged : Store → List ℕ → ℕ → ℕ → Judged
judged s marks scratch walk_path =
    cond (eqb (judging_number s (length marks) scratch walk_path) 0)
    (judged_of (value (link_count (entries_of s))) (sets marks 0 (verdicts s)))
    (judged_of (refused (judging_number s (length marks) scratch walk_path)) marks)
