-- What the rules of Addition.antt but that of room look at, by a set's record and the parts of a path, and what they
-- settle.
use Rattle.std.specs.Prelude.{ℕ, ◌+◌, Bool, false, not, ◌&&◌, ◌||◌, List, ℤ, length, ◌==◌, Option, Some, None}
use Rattle.std.specs.Bool.{then_some}
use Rattle.path.specs.Split.{is_complete}
use Rattle.path.specs.Join.{is_empty}
use Rattle.tables.specs.declared.storage.FileStorage.{FileStorage}
use Rattle.rules.specs.Rules.{Rule}
use Rattle.rules.specs.Bounds.{is_negative, clamped_of}
use Rattle.additions.specs.declared.checks.Sizes.{Sizes}
use Rattle.additions.specs.declared.parts.PathParts.{PathParts}
use Rattle.additions.specs.Addition.{decides, is_left_open, v2_after, pad_after, name_rules, Tested, rules_on}
use Rattle.additions.specs.private.Texts.{absolute_kind}

-- refusal 5 looks at a given name, or at the path's last part
abbrev pub limited_length : Option (List ℕ) → ℕ → ℕ
limited_length None leaf = leaf
limited_length (Some given) leaf = length given

-- refusal 6 beside a path that is absolute or not
abbrev pub bad_beside : Option (List ℕ) → Bool → Bool
bad_beside None absolute = false
bad_beside (Some given) absolute = is_complete given || (not (is_empty given) && absolute)

-- refusals 5, 6, 7
abbrev pub names_of : ℕ → Option (List ℕ) → PathParts → List Rule
names_of files given parts =
    name_rules files
    (limited_length given parts.leaf.len)
    (bad_beside given (absolute_kind parts.kind))
    parts.has_parent

-- whether a set is v2 after an addition: with a link text or none, with a root or none
abbrev pub version_for : FileStorage → ℤ → List ℕ → Bool → Bool
version_for fs size link root =
    v2_after fs.v2 fs.total_size fs.num_symlinks fs.num_files (clamped_of size) link root

-- the pad by its size, 0 for none
abbrev pub pad_if : ℕ → Option ℕ
pad_if size = then_some (not (size == 0)) size

-- size, version and pad of such an addition, where its file ends, and the total after it
abbrev pub sizes_for : FileStorage → ℤ → List ℕ → Bool → Sizes
sizes_for fs size link root =
    record {
      size = clamped_of size;
      v2 = version_for fs size link root;
      pad = pad_if (pad_after (version_for fs size link root) fs.piece_length (fs.total_size + clamped_of size));
      file_end = fs.total_size + clamped_of size;
      total_size =
          fs.total_size
          + clamped_of size
          + pad_after (version_for fs size link root) fs.piece_length (fs.total_size + clamped_of size);
    }

-- what the rules look at, by a set's record and the parts of a path
abbrev pub tested_for : FileStorage → Option (List ℕ) → PathParts → ℤ → List ℕ → Bool → Tested
tested_for fs given parts size link root =
    record {
      piece_length = fs.piece_length;
      total = fs.total_size;
      files = fs.num_files;
      v2 = fs.v2;
      negative = is_negative size;
      size = clamped_of size;
      limited = limited_length given parts.leaf.len;
      bad = bad_beside given (absolute_kind parts.kind);
      parent = parts.has_parent;
      plain = decides (clamped_of size) link;
      free = is_left_open fs.total_size fs.num_symlinks fs.num_files;
      root = root;
      pad = pad_after (version_for fs size link root) fs.piece_length (fs.total_size + clamped_of size);
    }

-- every rule but that of room
abbrev pub number_rules : FileStorage → Option (List ℕ) → PathParts → ℤ → List ℕ → Bool → List Rule
number_rules fs given parts size link root = rules_on (tested_for fs given parts size link root)
