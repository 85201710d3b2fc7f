-- The steps that the code takes to a plan: directories, counts, spans of the new texts. proofs/Plans.antt ties them to
-- `planned_for` of Plan.antt.
use Rattle.std.specs.Prelude.{◌≡◌, ℕ, ◌+◌, ◌<◌, ◌≤◌, Bool, true, false, cond, ◌&&◌, ◌||◌, List, [], ◌∷◌, ◌++◌, length}
use Rattle.std.specs.Prelude.{◌==◌, nat_lt, Option, Some, None, is_some, option_map, unwrap_or}
use Rattle.std.specs.Bool.{then_some}
use Rattle.std.specs.Option.{option_map_or, option_and_then, option_zip}
use Rattle.lists.specs.Lists.{ceiling}
use Rattle.lists.specs.Decimal.{decimal}
use Rattle.types.specs.Refusals.{Outcome}
use Rattle.types.specs.Signed.{zigzag}
use Rattle.tables.specs.Model.{Directory, stored, is_pad, Model, tabled}
use Rattle.rules.specs.Rules.{outcome_of}
use Rattle.additions.specs.Addition.{Addition, flags_kept, link_is_kept}
use Rattle.additions.specs.Addition.{is_among, pad_directory_name, with_directory_of, directory_added}
use Rattle.additions.specs.private.Texts.{name_from, link_text_of, directory_at, outside_kind}
use Rattle.plan.specs.Write.{directory_index, path_index_of, new_text_of, is_new_directory}
use Rattle.plan.specs.Write.{set_text, name_text, link_new, old_name, text_kept, on_disk_added}
use Rattle.tables.specs.declared.storage.FileStorage.{FileStorage}
use Rattle.tables.specs.Span.{text_at}
use Rattle.tables.specs.Entry.{is_here}
use Rattle.tables.specs.Rows.{dir_at, link_held_bit, outside_bit, root_bit, made_pad_flags}
use Rattle.rules.specs.Bounds.{max_entries, max_links}
use Rattle.change.specs.declared.rooms.Rooms.{Rooms}
use Rattle.change.specs.Rooms.{files_room, dirs_room}
use Rattle.additions.specs.declared.checks.Sizes.{Sizes}
use Rattle.additions.specs.declared.info.FileInfo.{FileInfo}
use Rattle.additions.specs.declared.parts.PathKind.{PathKind}
use Rattle.additions.specs.declared.parts.PathParts.{PathParts}
use Rattle.plan.specs.declared.dirs.DirPlan.{DirPlan}
use Rattle.plan.specs.declared.counts.Counts.{Counts}
use Rattle.plan.specs.declared.counts.FileFacts.{FileFacts}
use Rattle.plan.specs.declared.plan.TextSpans.{TextSpans}
use Rattle.plan.specs.declared.plan.TextLengths.{TextLengths}
use Rattle.plan.specs.declared.plan.Decided.{Decided}
use Rattle.plan.specs.declared.plan.DirPlans.{DirPlans}
use Rattle.plan.specs.declared.plan.AddPlan.{AddPlan}

-- the texts of the first n directory rows
abbrev pub dir_texts : List ℕ → List ℕ → ℕ → List (List ℕ)
dir_texts dirs text n = tabled n (λ i. text_at text (dir_at dirs i))

-- a directory beside those stored: its path index, the length of its text where it is new, and how many there are
-- with it
abbrev pub dir_plan_of : Directory → List (List ℕ) → DirPlan
dir_plan_of d ds =
    record {
      index = path_index_of d ds;
      new = then_some (is_new_directory d ds) (length (new_text_of d ds));
      count = length (with_directory_of d ds);
    }

-- the plan of a directory that is stored, or of none, with index k beside n stored ones, and that of a new one, after n
-- stored ones, with a text of len bytes
abbrev pub known_at : ℕ → ℕ → DirPlan
known_at k n = record { index = k; new = None; count = n }

abbrev pub added_at : ℕ → ℕ → DirPlan
added_at n len = record { index = n; new = Some len; count = n + 1 }

-- the plan of a directory by its text among those stored, where there are n directories before it
abbrev pub plan_among : List ℕ → ℕ → List (List ℕ) → DirPlan
plan_among d n ds = cond (is_among d ds) (known_at (directory_index d ds) n) (added_at n (length d))

-- the directories with one more, where it is new
abbrev pub dirs_with : Bool → List ℕ → List (List ℕ) → List (List ℕ)
dirs_with new d ds = cond new (ds ++ (d ∷ [])) ds

abbrev pub count_with : Bool → ℕ → ℕ
count_with new n = n + cond new 1 0

-- the same of the pad's directory, where a pad follows
abbrev pub pad_dir_plan_of : Option ℕ → List (List ℕ) → Option DirPlan
pad_dir_plan_of pad ds = option_map (λ size. dir_plan_of (stored pad_directory_name false) ds) pad

-- how many directories there are with the file's and the pad's, and the length of the text of the pad's, where that is
-- new
abbrev pub dirs_after : DirPlans → ℕ
dirs_after d = option_map_or (λ p. p.count) d.pad d.file.count

abbrev pub pad_new : DirPlans → Option ℕ
pad_new d = option_and_then (λ p. p.new) d.pad

-- ---- numbers

abbrev pub bit_of : Bool → ℕ → ℕ
bit_of on n = cond on n 0

-- the flags of a file's row: what is given, a link text, a directory outside the set's name, a root
abbrev pub row_flags : FileFacts → Bool → ℕ
row_flags f outside =
    flags_kept f.flags f.keeps_link
    + cond f.keeps_link link_held_bit 0
    + cond outside outside_bit 0
    + cond f.has_root root_bit 0

-- the facts of a file and its link text, where a set is added to
abbrev pub facts_of : FileStorage → FileInfo → List ℕ → FileFacts
facts_of fs file link =
    record {
      flags = file.flags;
      keeps_link = link_is_kept fs.num_symlinks link;
      has_root = is_here file.rooted;
      time = zigzag file.mtime;
    }

-- counts that fit
pub record Countable (fs : FileStorage) (keeps : Bool) : Type 0 where
  pub files : fs.num_files ≤ max_entries
  pub links : keeps ≡ true → fs.num_symlinks < max_links

abbrev pub counts_of : FileStorage → Sizes → FileFacts → Counts
counts_of fs z f =
    record {
      num_files = fs.num_files + cond (is_some z.pad) 2 1;
      num_symlinks = fs.num_symlinks + cond f.keeps_link 1 0;
      size_on_disk = on_disk_added fs.size_on_disk (cond (is_pad f.flags) 0 z.size);
    }

-- the tables have too few rows for these counts of files and directories
abbrev pub short_of : Rooms → ℕ → ℕ → Bool
short_of rooms files dirs = nat_lt (files_room rooms) files || nat_lt (dirs_room rooms) dirs

-- a table of first files with that many places, where the set keeps one, is too short for a set with that total
abbrev pub places_lack : FileStorage → ℕ → ℕ → Bool
places_lack fs places total = fs.indexed && nat_lt places (ceiling total fs.piece_length)

-- how many digits name a pad, where there is one
abbrev pub pad_length : Option ℕ → ℕ
pad_length None = 0
pad_length (Some pad) = length (decimal pad)

-- texts of these lengths, one after the other from `start` on
abbrev pub text_spans_of : ℕ → ℕ → ℕ → ℕ → ℕ → ℕ → ℕ → TextSpans
text_spans_of start set dir name link pad_dir pad =
    record {
      set = record { at = start; len = set };
      directory = start + set;
      name = record { at = start + set + dir; len = name };
      link = record { at = start + set + dir + name; len = link };
      pad_directory = start + set + dir + name + link;
      pad_name = record { at = start + set + dir + name + link + pad_dir; len = pad };
      end = start + set + dir + name + link + pad_dir + pad;
    }

-- spans that end within the room
abbrev pub spans_within : ℕ → TextSpans → Option TextSpans
spans_within room p = cond (nat_lt room p.end) None (Some p)

-- ---- the plan

abbrev pub plan_from : Decided → Counts → DirPlans → TextSpans → AddPlan
plan_from a counts d spans =
    record {
      before = a.fs;
      after = record {
        piece_length = a.fs.piece_length;
        v2 = a.sizes.v2;
        num_files = counts.num_files;
        num_paths = dirs_after d;
        num_symlinks = counts.num_symlinks;
        name = cond (a.fs.num_files == 0) spans.set a.fs.name;
        text_len = spans.end;
        total_size = a.sizes.total_size;
        size_on_disk = counts.size_on_disk;
        trimmed = a.fs.trimmed;
        indexed = a.fs.indexed;
      };
      row = record {
        offset = a.fs.total_size;
        size = a.sizes.size;
        name = spans.name;
        link = spans.link;
        path_index = d.file.index;
        flags = row_flags a.facts (outside_kind a.parts.kind);
        time = a.facts.time;
      };
      pad_row =
          option_map
          (λ p. record {
            offset = a.sizes.file_end;
            size = p.0;
            name = spans.pad_name;
            link = record { at = spans.end; len = 0 };
            path_index = p.1.index;
            flags = made_pad_flags;
            time = 0;
          })
          (option_zip a.sizes.pad d.pad);
      dir =
          option_map (λ len. record { slot = a.fs.num_paths; text = record { at = spans.directory; len = len } })
          d.file.new;
      pad_dir =
          option_map (λ len. record { slot = d.file.count; text = record { at = spans.pad_directory; len = len } })
          (pad_new d);
      old = old_name a.fs;
      start = spans.set.at;
      parts = a.parts;
    }

-- the spans of an addition whose texts have these lengths
abbrev pub text_spans_for : Decided → DirPlans → TextSpans
text_spans_for a d =
    text_spans_of (text_kept a.fs)
    a.lengths.set_name
    (unwrap_or d.file.new 0)
    a.lengths.name
    a.lengths.link
    (unwrap_or (pad_new d) 0)
    (pad_length a.sizes.pad)

-- the plan where there is room, else refusal 10
abbrev pub planned_in : Rooms → Decided → DirPlans → Outcome AddPlan
planned_in rooms a d =
    outcome_of
    (cond
    (short_of rooms (counts_of a.fs a.sizes a.facts).num_files (dirs_after d)
    || nat_lt rooms.text (text_spans_for a d).end)
    10
    0)
    (plan_from a (counts_of a.fs a.sizes a.facts) d (text_spans_for a d))

-- the same of a directory's text beside the directories that are stored
abbrev pub planned_beside : Rooms → List (List ℕ) → Decided → Directory → Outcome AddPlan
planned_beside rooms ds a d =
    planned_in rooms a
    (record { file = dir_plan_of d ds; pad = pad_dir_plan_of a.sizes.pad (with_directory_of d ds) })

-- the lengths of the texts of an addition, whose path has these parts
abbrev pub lengths_of : ℕ → Option (List ℕ) → List ℕ → PathParts → List ℕ → TextLengths
lengths_of links given path parts link =
    record {
      set_name = length (text_at path parts.set_name);
      name = length (name_from given (text_at path parts.name));
      link = length (link_text_of links link);
    }

-- the texts of an addition are those of the model
pub record TextsOf (m : Model) (a : Addition) (set : List ℕ) (kind : PathKind) (dir name link : List ℕ) : Type 0 where
  pub set_is : set ≡ set_text m a
  pub dir-is : directory_at kind dir ≡ directory_added m a
  pub name-is : name ≡ name_text m a
  pub link-is : link ≡ link_new m a
