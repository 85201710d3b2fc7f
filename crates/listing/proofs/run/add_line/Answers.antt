-- `listing::run::add_line` meets its contract. The table of first files that it lends has no places, before and after.
use Rattle.std.specs.Prelude.{Option, None}
use Rattle.types.specs.Refusals.{outcome}
use Prim.Native.Nat.{ℕ, ◌%◌}
use mathlib.Core.Path.{◌≡◌, refl, sym, ap, ◌∙◌}
use mathlib.Core.List.{List, []}
use lib.Dec.{leb}
use lib.IntN.{ℤ, pos}
use lib.ListN.{replicate}
use mir.Syntax.{w64}
use mir.Val.{SFits}
use mir.Facts.{to_z-of_z}
use Rattle.tables.specs.declared.rows.Presence.{Presence}
use Rattle.additions.specs.Addition.{optional_of, Addition}
use Rattle.change.specs.Changes.{changed_of}
use Rattle.plan.specs.Outcomes.{add_stored}
use Rattle.listing_input.specs.Form.{FileEntry}
use Rattle.listing.specs.Run.{addition_of}
use Rattle.tables.specs.Model.{present_if}
use Rattle.listing_input.specs.declared.form.FileLine.{FileLine}
use Rattle.listing_input.specs.Answers.{file_says}
use Rattle.listing.specs.private.Steps.{store_in, obeyed}
use Rattle.listing.proofs.Steps.{nil_is, size_is, root_by}
use Rattle.listing.proofs.run.add_line.Goals as goal

-- what the call brings is what the line says
addition-is : (size flags : ℕ) (path : List ℕ) (z t : ℤ) (root : Option (List ℕ)) → z ≡ pos size → t ≡ pos 0 → root ≡ present_if (leb 16 flags) (replicate 32 1)
    → ◌≡◌ {A = Addition} (record { given = None; path = path; size = z; flags = flags % 8; time = t; link = []; root = root }) (addition_of (record { size = size; flags = flags; path = path }))
addition-is size flags path z t root c d e = rw (c, d, e)

pub returns-clause-changed : goal.returns-clause-changed
returns-clause-changed c =
    let a = c.args in
    let s = store_in a.fs a.to.now in
    let size = c.in_ok-size.field-0.size in
    let flags = c.in_ok-size.field-0.flags in
    let path = c.in_ok-size.field-0.path.now in
    let told = sym (ap (λ (o : Option FileLine). file_says o) c.in_ok-size.ensures.ok_part) ∙ c.file_in.ensures in
    let g : SFits w64 c.signed64.result = record { sfits = c.signed64.type_inv } in
    let f = c.add_file in
    ap (λ (l : List ℕ). changed_of (outcome f.result) f.new.rows f.new.roots l f.new.dirs f.new.text) (sym (nil_is f.new.firsts f.auto.firsts))
    ∙ f.ensures
    ∙ ap (add_stored s)
    (addition-is size flags path _ _ _
    (to_z-of_z g ∙ c.signed64.ensures ∙ ap pos (size_is a.line.now path size flags told)) refl
    (ap (λ (r : Presence). optional_of r (replicate 32 1)) c.from.ensures ∙ root_by (leb 16 flags) (replicate 32 1)))
    ∙ ap (λ (o : Option FileEntry). obeyed o s) told
