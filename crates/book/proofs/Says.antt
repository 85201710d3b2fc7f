-- What a caller learns from the contracts of `open`, `open_indexed`, `add_file`, `remove_tail_padding`, `sanitize_symlinks`, `rename_file`,
-- `import_filenames`, `map_file` and `map_block` is the very premise of the relation of calls and of the demand. `Learnt` is made of the
-- source's own clauses, so a weakened `ensures` breaks these laws. They rely on nothing else.
use seplogic.Ra.Ura.{Ura}
use base.Logic.{SProp}
use prog.Memory.{Memory}
use prog.Routine.{Routine}
use types.Logic.{Logic}
use contract.Monad.{Fun, fact}
use contract.Lifetimes
use borrow.Fn.World
use denote.Triple.Entry.{Args, Res}
use denote.Triple.Clauses
use borrow.Fn.Kinds as kinds
use mathlib.Core.Path.{◌≡◌, refl, sym, ap, ◌∙◌}
use mathlib.Core.Bool.{true, false}
use mathlib.Core.List.{List, [], ◌∷◌}
use Prim.Native.Nat.{ℕ, ◌≤◌}
use lib.IntN.{ℤ, pos}
use Rattle.types.specs.Refusals.{value, outcome}
use Rattle.tables.specs.declared.storage.FileStorage.{FileStorage}
use Rattle.tables.specs.Model.{Store, store_of}
use Rattle.additions.specs.Addition.{Addition, addition_of}
use Rattle.storage.specs.Opening.{opened}
use Rattle.change.specs.Changes.{Changed, changed_of}
use Rattle.plan.specs.Outcomes.{add_stored}
use Rattle.trim.specs.Removal.{trim_stored}
use Rattle.lookup.specs.Lookup.{lent}
use Rattle.cleaning.specs.Cleaning.{Cleaned, clean_stored}
use Rattle.renames.specs.Renames.{rename_file_answer}
use Rattle.renames.specs.Renames as renames
use Rattle.imports.specs.Imports.{Naming, namings, list_held, import_filenames_answer, import_lent}
use Rattle.imports.proofs.Lent.{lent-held}
use Rattle.rules.specs.Results.{request_says}
use Rattle.files.specs.Given.{file_mapped}
use Rattle.mapping.specs.Table.{Filled, block_mapped}
use Rattle.storage.specs.contracts.open
use Rattle.storage.proofs.open.Kinds as open-kinds
use Rattle.storage.proofs.open.Reads as open-reads
use Rattle.storage.specs.contracts.open_indexed
use Rattle.storage.proofs.open_indexed.Kinds as indexed-kinds
use Rattle.storage.proofs.open_indexed.Reads as indexed-reads
use Rattle.storage.specs.contracts.add_file
use Rattle.storage.proofs.add_file.Kinds as add-kinds
use Rattle.storage.proofs.add_file.Reads as add_reads
use Rattle.trim.specs.contracts.remove_tail_padding
use Rattle.trim.proofs.remove_tail_padding.Kinds as trim-kinds
use Rattle.trim.proofs.remove_tail_padding.Reads as trim-reads
use Rattle.mapping.specs.contracts.map_block
use Rattle.cleaning.specs.contracts.sanitize_symlinks
use Rattle.cleaning.proofs.sanitize_symlinks.Kinds as clean-kinds
use Rattle.cleaning.proofs.sanitize_symlinks.Reads as clean-reads
use Rattle.renames.specs.contracts.rename_file
use Rattle.renames.proofs.rename_file.Kinds as rename-kinds
use Rattle.renames.proofs.rename_file.Reads as rename-reads
use Rattle.imports.specs.contracts.import_filenames
use Rattle.imports.proofs.import_filenames.Kinds as import-kinds
use Rattle.imports.proofs.import_filenames.Reads as import-reads
use Rattle.files.specs.contracts.map_file
use Rattle.files.proofs.map_file.Kinds as map-kinds
use Rattle.files.proofs.map_file.Reads as map-reads
use Rattle.book.specs.Book.{Made}
use Rattle.book.specs.Book as book
use Rattle.book.specs.Calls.{came_of, store_after, cleaned_by, call, Renames, no_entries, renames_after, Leads}
use Rattle.book.specs.Calls as calls

-- ---- `open`, of a set that keeps no table of first files

module _ (κs : Lifetimes.Lfts 0) (a : World.ArgsD open.signature κs) (r : World.ResD open.signature κs) (s : Clauses.AtExit (kinds.ended_of 0 open-kinds.ps open-kinds.r) κs) where
  pub open-says : open-reads.Learnt κs a r s → outcome r ≡ opened a.0 false
  open-says p = p

  -- the record that it gives, beside any tables, is where calls begin
  pub open-leads : {n : ℕ} (t : Store) (q : Renames) → n ≤ 2147483647 → a.0 ≡ pos n → outcome r ≡ value t.fs → q.rf ≡ no_entries → open-reads.Learnt κs a r s → Leads n [] t q
  open-leads t q h e v z p = calls.opening false h (ap (λ (i : ℤ). opened i false) (sym e) ∙ sym (open-says p) ∙ v) z

-- ---- `open_indexed`, of a set that keeps one

module _ (κs : Lifetimes.Lfts 0) (a : World.ArgsD open_indexed.signature κs) (r : World.ResD open_indexed.signature κs) (s : Clauses.AtExit (kinds.ended_of 0 indexed-kinds.ps indexed-kinds.r) κs) where
  pub open-indexed-says : indexed-reads.Learnt κs a r s → outcome r ≡ opened a.0 true
  open-indexed-says p = p

  pub open-indexed-leads : {n : ℕ} (t : Store) (q : Renames) → n ≤ 2147483647 → a.0 ≡ pos n → outcome r ≡ value t.fs → q.rf ≡ no_entries → indexed-reads.Learnt κs a r s → Leads n [] t q
  open-indexed-leads t q h e v z p = calls.opening true h (ap (λ (i : ℤ). opened i true) (sym e) ∙ sym (open-indexed-says p) ∙ v) z

-- ---- `add_file`

module _ (κs : Lifetimes.Lfts 8) (a : World.ArgsD add_file.signature κs) (r : World.ResD add_file.signature κs) (s : Clauses.AtExit (kinds.ended_of 8 add-kinds.ps add-kinds.r) κs) where
  -- the record and the tables that were lent
  abbrev pub added_to : Store
  added_to = store_of a.0 a.1.0.now a.1.1.0.now a.1.1.1.0.now a.1.1.1.1.0.now a.1.1.1.1.1.0.now

  -- the other arguments
  abbrev pub asked : Addition
  asked =
      addition_of
      a.1.1.1.1.1.1.0
      a.1.1.1.1.1.1.1.0.now
      a.1.1.1.1.1.1.1.1.0.now
      a.1.1.1.1.1.1.1.1.1.0.now

  -- the answer, and the tables as they were left
  abbrev pub added_by : Changed
  added_by =
      changed_of (outcome r) s.1.0.now s.1.1.0.now s.1.1.1.0.now s.1.1.1.1.0.now s.1.1.1.1.1.0.now

  pub add-file-says : add_reads.Learnt κs a r s → added_by ≡ add_stored added_to asked
  add-file-says p = p

  -- a call on tables that calls led to is one call more
  pub add-file-leads : {n : ℕ} {made : List Made} {q : Renames} → Leads n made added_to q → add_reads.Learnt κs a r s → Leads n (call (book.add asked) added_by ∷ made) (store_after a.0 added_by) q
  add-file-leads l p = calls.addition asked added_by l (add-file-says p)

-- ---- `remove_tail_padding`, to which first files are not lent: whatever they are, the trim leaves them

module _ (κs : Lifetimes.Lfts 4) (a : World.ArgsD remove_tail_padding.signature κs) (r : World.ResD remove_tail_padding.signature κs) (s : Clauses.AtExit (kinds.ended_of 4 trim-kinds.ps trim-kinds.r) κs) where
  -- the set of the record and the tables that were lent, with these first files
  abbrev pub trimmed_from : List ℕ → Store
  trimmed_from firsts = store_of a.0 a.1.0.now a.1.1.0.now firsts a.1.1.1.0.now a.1.1.1.1.0.now

  abbrev pub trimmed_by : List ℕ → Changed
  trimmed_by firsts = changed_of (outcome r) s.1.0.now s.1.1.0.now firsts s.1.1.1.0.now s.1.1.1.1.0.now

  pub trim-says : trim-reads.Learnt κs a r s → (firsts : List ℕ) → trimmed_by firsts ≡ trim_stored (trimmed_from firsts)
  trim-says p = p

  pub trim-leads : {n : ℕ} {made : List Made} {q : Renames} (firsts : List ℕ) → Leads n made (trimmed_from firsts) q → trim-reads.Learnt κs a r s → Leads n (call book.trim (trimmed_by firsts) ∷ made) (store_after a.0 (trimmed_by firsts)) q
  trim-leads firsts l p = calls.trim (trimmed_by firsts) l (trim-says p firsts)

-- ---- `sanitize_symlinks`, to which neither roots nor first files are lent

module _ (κs : Lifetimes.Lfts 6) (a : World.ArgsD sanitize_symlinks.signature κs) (r : World.ResD sanitize_symlinks.signature κs) (s : Clauses.AtExit (kinds.ended_of 6 clean-kinds.ps clean-kinds.r) κs) where
  -- the set of the record and the tables that were lent, with these roots and first files
  abbrev pub cleaned_from : List ℕ → List ℕ → Store
  cleaned_from roots firsts = store_of a.0 a.1.0.now roots firsts a.1.1.0.now a.1.1.1.0.now

  abbrev pub cleaned : Cleaned
  cleaned =
      record {
        says = outcome r;
        rows = s.1.0.now;
        dirs = s.1.1.0.now;
        text = s.1.1.1.0.now;
        marks = s.1.1.1.1.0.now;
        scratch = s.1.1.1.1.1.0.now;
        walk_path = s.1.1.1.1.1.1.0.now;
      }

  pub clean-says : clean-reads.Learnt κs a r s → cleaned ≡ clean_stored (lent a.0 a.1.0.now a.1.1.0.now a.1.1.1.0.now) a.1.1.1.1.0.now a.1.1.1.1.1.0.now a.1.1.1.1.1.1.0.now
  clean-says p = p

  pub clean-leads : {n : ℕ} {made : List Made} {q : Renames} (roots firsts : List ℕ) → Leads n made (cleaned_from roots firsts) q → clean-reads.Learnt κs a r s → Leads n (call book.clean (cleaned_by (cleaned_from roots firsts) cleaned) ∷ made) (store_after a.0 (cleaned_by (cleaned_from roots firsts) cleaned)) q
  clean-leads roots firsts l p =
      calls.cleaning a.1.1.1.1.0.now a.1.1.1.1.1.0.now a.1.1.1.1.1.1.0.now cleaned l (clean-says p)

-- ---- `rename_file`, on renames in tables of their own

module _ (κs : Lifetimes.Lfts 3) (a : World.ArgsD rename_file.signature κs) (r : World.ResD rename_file.signature κs) (s : Clauses.AtExit (kinds.ended_of 3 rename-kinds.ps rename-kinds.r) κs) where
  abbrev pub named : Naming
  named = record { file = a.1.1.1.1.0.0; name = a.1.1.1.1.1.0.now }

  abbrev pub renamed_by : renames.RenamesChanged
  renamed_by = record { says = outcome r; entries = s.1.1.0.now; text = s.1.1.1.0.now }

  pub rename-says : rename-reads.Learnt κs a r s → renamed_by ≡ rename_file_answer a.0 a.1.0 a.1.1.0.now a.1.1.1.0.now named.file named.name
  rename-says p = p

  -- the renames that were lent
  abbrev pub renamed_from : Renames
  renamed_from = record { rf = a.1.0; entries = a.1.1.0.now; text = a.1.1.1.0.now }

  -- a call with the record of a set that calls led to, on the renames that they left, is one call more, and leaves the set
  pub rename-leads : {n : ℕ} {made : List Made} {t : Store} → a.0 ≡ t.fs → Leads n made t renamed_from → rename-reads.Learnt κs a r s → Leads n (record { call = book.rename named; came = came_of (outcome r) } ∷ made) t (renames_after renamed_from renamed_by)
  rename-leads e l p =
      calls.renaming named renamed_by l
      (rename-says p ∙ ap (λ (fs : FileStorage). rename_file_answer fs a.1.0 a.1.1.0.now a.1.1.1.0.now named.file named.name) e)

-- ---- `import_filenames`, likewise, on a list that is lent whole

module _ (κs : Lifetimes.Lfts 5) (a : World.ArgsD import_filenames.signature κs) (r : World.ResD import_filenames.signature κs) (s : Clauses.AtExit (kinds.ended_of 5 import-kinds.ps import-kinds.r) κs) where
  abbrev pub all_named : List Naming
  all_named = namings a.1.1.1.1.0.now a.1.1.1.1.1.0.now a.1.1.1.1.1.1.0.now

  abbrev pub imported_by : renames.RenamesChanged
  imported_by = record { says = outcome r; entries = s.1.1.0.now; text = s.1.1.1.0.now }

  pub import-lent-says : import-reads.Learnt κs a r s → imported_by ≡ import_lent a.0 a.1.0 a.1.1.0.now a.1.1.1.0.now a.1.1.1.1.0.now a.1.1.1.1.1.0.now a.1.1.1.1.1.1.0.now
  import-lent-says p = p

  -- each number has its length, and the names have the bytes that the lengths say (every list of pairs can be lent so: `renames`,
  -- proofs/Lent.antt, `lent-whole` and `lent-pairs`)
  module _ (whole : list_held a.1.1.1.1.0.now a.1.1.1.1.1.0.now a.1.1.1.1.1.1.0.now ≡ true) where
    pub import-says : import-reads.Learnt κs a r s → imported_by ≡ import_filenames_answer a.0 a.1.0 a.1.1.0.now a.1.1.1.0.now all_named
    import-says p =
        import-lent-says p ∙ lent-held a.0 a.1.0 a.1.1.0.now a.1.1.1.0.now a.1.1.1.1.0.now a.1.1.1.1.1.0.now a.1.1.1.1.1.1.0.now whole

    abbrev pub imported_from : Renames
    imported_from = record { rf = a.1.0; entries = a.1.1.0.now; text = a.1.1.1.0.now }

    pub import-leads : {n : ℕ} {made : List Made} {t : Store} → a.0 ≡ t.fs → Leads n made t imported_from → import-reads.Learnt κs a r s → Leads n (record { call = book.«import» all_named; came = came_of (outcome r) } ∷ made) t (renames_after imported_from imported_by)
    import-leads e l p =
        calls.importing all_named imported_by l
        (import-says p ∙ ap (λ (fs : FileStorage). import_filenames_answer fs a.1.0 a.1.1.0.now a.1.1.1.0.now all_named) e)

-- ---- `map_file`

module _ (κs : Lifetimes.Lfts 1) (a : World.ArgsD map_file.signature κs) (r : World.ResD map_file.signature κs) (s : Clauses.AtExit (kinds.ended_of 1 map-kinds.ps map-kinds.r) κs) where
  pub map-file-says : map-reads.Learnt κs a r s → request_says r ≡ file_mapped a.0 a.1.0.now a.1.1.0.0 a.1.1.1.0 a.1.1.1.1.0
  map-file-says p = p

-- ---- `map_block`: what its clauses ensure is the fact

module _ {M : Type 1} {𝓤 : Ura M} (𝓛 : Logic 𝓤) (mem : Memory → SProp 𝓤) (run : Routine → Fun 𝓤) (κs : Lifetimes.Lfts 2)
    (a : Args map_block.signature κs) (r : Res map_block.signature κs) (e : Clauses.AtExit map_block.ended κs) where
  pub map-block-says :
      (map_block.clauses 𝓛 mem run κs a).ensures tt r e ≡
      fact 𝓤
      (◌≡◌ {A = Filled} (record { says = outcome r; table = e.1.1.1.1.1.1.0.now })
      (block_mapped a.0 a.1.0.now a.1.1.0 a.1.1.1.0.0 a.1.1.1.1.0 a.1.1.1.1.1.0 a.1.1.1.1.1.1.0.now))
  map-block-says = refl
