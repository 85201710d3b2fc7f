-- What an addition's plan is, by the definitions of Write.antt and Outcomes.antt on what the tables mean.
use Rattle.std.specs.Prelude.{not, length, ◌==◌}
use Rattle.std.specs.Bool.{then_some}
use Rattle.types.specs.Refusals.{Outcome}
use Rattle.tables.specs.declared.storage.FileStorage.{FileStorage}
use Rattle.tables.specs.Model.{Model, Store, view_of}
use Rattle.rules.specs.Rules.{outcome_of}
use Rattle.additions.specs.Addition.{Addition, with_directory_of, pad_of, directory_added}
use Rattle.additions.specs.Parts.{parts_of}
use Rattle.plan.specs.declared.plan.AddPlan.{AddPlan}
use Rattle.plan.specs.Write.{is_new_directory, is_new_pad, directory_new, old_name, text_kept}
use Rattle.plan.specs.Write.{directory_start, pad_directory_start, storage_added, row_added, row_of_pad}
use Rattle.plan.specs.Outcomes.{adding_number}

-- the plan by the public definitions
abbrev pub plan_of : FileStorage → Model → Addition → AddPlan
plan_of fs m a =
    record {
      before = fs;
      after = storage_added fs m a;
      row = row_added fs m a;
      pad_row = then_some (not (pad_of m a == 0)) (row_of_pad fs m a);
      dir =
          then_some (is_new_directory (directory_added m a) m.directories)
          (record {
            slot = fs.num_paths;
            text = record { at = directory_start fs m a; len = length (directory_new m a) };
          });
      pad_dir =
          then_some (is_new_pad m a)
          (record {
            slot = length (with_directory_of (directory_added m a) m.directories);
            text = record { at = pad_directory_start fs m a; len = 4 };
          });
      old = old_name fs;
      start = text_kept fs;
      parts = parts_of fs.num_files m.name a.path;
    }

-- what `plan_add` answers
abbrev pub planned_for : Store → Addition → Outcome AddPlan
planned_for s a = outcome_of (adding_number s (view_of s) a) (plan_of s.fs (view_of s) a)
