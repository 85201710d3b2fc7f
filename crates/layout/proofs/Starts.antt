-- What a block's start says of the block once room is looked at. They rely on the laws of rules in a row.
--     block_stopped     a refused start: the block's number of refusal
--     block_open        a start with a cursor: only room is left to look at
--     block_from        where that cursor is
--     from_block        the slices from there on
use Rattle.std.proofs.Common.{◌≡◌, ℕ, ◌<◌, ◌≤◌, ◌&&◌, true, false, List, [], ◌∷◌, length, ℤ, sym, refl, ap, ◌∙◌, to_z-of_z, le-leb, leb-true}
use Rattle.types.specs.Refusals.{number_of, value, refused}
use Rattle.types.specs.declared.refusal.Refusal.{Refusal}
use Rattle.tables.specs.declared.storage.FileStorage.{FileStorage}
use Rattle.rules.specs.Rules.{Rule, first_of}
use Rattle.rules.specs.Bounds.{clamped_of}
use Rattle.rules.specs.Questions.{rows_are_held, bad_piece_length, many_pieces, no_piece, bad_range, short, few_entries}
use Rattle.layout.specs.declared.start.Cursor.{Cursor}
use Rattle.layout.specs.declared.window.Window.{Window}
use Rattle.layout.specs.Mapping.{target_of, block_of, block_rules}
use Rattle.layout.specs.Start.{slices_from, cursor_at, block_start}
use Rattle.types.proofs.Refusals.{numbered, exit}
use Rattle.rules.proofs.Rules.{first-append, after, outcome-value, outcome-refused}

module _ (fs : FileStorage) (rows : List ℕ) (w : Window) (z offset size : ℤ) where
  abbrev rules : List Rule
  rules = bad_piece_length fs ∷ many_pieces fs ∷ no_piece fs z ∷ bad_range offset size ∷ short (rows_are_held fs rows && few_entries fs) ∷ []

  abbrev begin : Cursor
  begin = cursor_at fs rows w (target_of fs z offset) (clamped_of size)

  pub block_stopped : (e : Refusal) (last : List Rule) → refused (number_of e) ≡ block_start fs rows w z offset size
      → first_of (block_rules fs rows z offset size last) ≡ number_of e
  block_stopped e last h =
      let k : first_of rules ≡ number_of e = outcome-refused (first_of rules) (number_of e) begin h in
      first-append rules last refl ∙ rw (k, numbered e)

  module _ {from : Cursor} (h : value from ≡ block_start fs rows w z offset size) where
    pub block_open : (last : List Rule) → first_of (block_rules fs rows z offset size last) ≡ first_of last
    block_open last = after rules last refl (sym (outcome-value (first_of rules) from begin h).0)

    pub block_from : from ≡ begin
    block_from = (outcome-value (first_of rules) from begin h).1

    -- the slices from that cursor on are the block's
    pub from_block : slices_from rows from ≡ block_of fs rows w z offset size
    from_block = ap (slices_from rows) block_from

-- what a block's start needs, with signed numbers as the code passes them on
pub ruleset starting = (numbered, exit, to_z-of_z)
