-- An addition leaves every table as it was, or writes its plan, which is that of the public definitions. Relies on the laws
-- of Written.antt and on those of the plan.
use mathlib.Core.Path.{◌≡◌, refl, sym, ap, subst, ◌∙◌}
use mathlib.Core.List.{List}
use Prim.Native.Nat.{ℕ, ◌≤◌}
use Rattle.types.specs.Refusals.{number_of, value, refused}
use Rattle.types.specs.declared.refusal.Refusal.{Refusal}
use Rattle.types.proofs.Refusals.{numbered}
use Rattle.tables.specs.Span.{text_at}
use Rattle.tables.specs.Model.{Store, view_of}
use Rattle.rules.proofs.Rules.{outcome-value, outcome-refused}
use Rattle.change.specs.Changes.{Changed, changed_of, answering}
use Rattle.additions.specs.declared.info.FileInfo.{FileInfo}
use Rattle.additions.specs.Addition.{Addition, optional_of, addition_of}
use Rattle.additions.specs.private.Texts.{name_from, link_text_of}
use Rattle.plan.specs.declared.plan.AddPlan.{AddPlan}
use Rattle.plan.specs.Write.{store_added, roots_added}
use Rattle.plan.specs.Outcomes.{adding_number, add_stored}
use Rattle.plan.specs.Plan.{plan_of, planned_for}
use Rattle.plan.proofs.Plans.{add-held, texts-of}
use Rattle.storage.specs.private.Written.{rows_written, dirs_written, text_written, firsts_written}
use Rattle.storage.proofs.Written.{text-is, rows_are, dirs-are}

-- a call, on tables and texts of any content
module _ (s : Store) (file : FileInfo) (filename path link : List ℕ) where
  abbrev call : Addition
  call = addition_of file filename path link

  abbrev number : ℕ
  number = adding_number s (view_of s) call

  abbrev plan : AddPlan
  plan = plan_of s.fs (view_of s) call

  pub add-kept : (x : Refusal) → refused (number_of x) ≡ planned_for s call → answering (refused (number_of x)) s ≡ add_stored s call
  add-kept x h =
      let n : number ≡ number_of x = outcome-refused number (number_of x) plan h in
      rw (n, numbered x)

  -- what a plan writes
  abbrev pub text_by : AddPlan → List ℕ
  text_by p =
      text_written p.before.num_files p.before.text_len p s.text
      (text_at path p.parts.set_name)
      (text_at path p.parts.directory)
      (name_from call.given (text_at path p.parts.name))
      (link_text_of p.before.num_symlinks link)

  abbrev pub written_by : AddPlan → Changed
  written_by p =
      changed_of (value p.after)
      (rows_written p.before.num_files p s.rows)
      (roots_added s.roots p.before.num_files (optional_of file.rooted file.root.bytes))
      (firsts_written p.before p.after s.firsts)
      (dirs_written p.before.num_files p.before.num_paths p s.dirs)
      (text_by p)

  all-written : written_by plan ≡ answering (value (store_added s (view_of s) call).fs) (store_added s (view_of s) call)
  all-written =
      let text =
      text-is s (view_of s) call (text_at path plan.parts.set_name) (text_at path plan.parts.directory)
      (name_from call.given (text_at path plan.parts.name)) (link_text_of s.fs.num_symlinks link) plan.parts.kind
      (texts-of s call plan.parts refl) in
      rw (rows_are s (view_of s) call, dirs-are s (view_of s) call, text)

-- the plan of a call
pub record Planned (s : Store) (file : FileInfo) (filename path link : List ℕ) (p : AddPlan) : Type 0 where
  pub is : value p ≡ planned_for s (addition_of file filename path link)

module _ {s : Store} {file : FileInfo} {filename path link : List ℕ} {p : AddPlan} (k : Planned s file filename path link p) where
  planned : (number s file filename path link ≡ 0) × (p ≡ plan s file filename path link)
  planned = outcome-value (number s file filename path link) p (plan s file filename path link) k.is

  pub add-few : p.before.num_files ≤ 65535
  add-few = subst (λ (q : AddPlan). q.before.num_files ≤ 65535) (sym planned.1) (add-held s (call s file filename path link) planned.0)

  pub add-written : written_by s file filename path link p ≡ add_stored s (call s file filename path link)
  add-written = ap (written_by s file filename path link) planned.1 ∙ all-written s file filename path link ∙ rw planned.0
