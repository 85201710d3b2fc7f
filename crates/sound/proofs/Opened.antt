-- A newly opened set: its tables, whatever they hold, are in order, and mean the set without files. Relies on nothing.
use mathlib.Core.Path.{◌≡◌, refl}
use mathlib.Core.Bool.{Bool}
use mathlib.Core.List.{List}
use Prim.Native.Nat.{ℕ}
use native.Mathlib.Omega.{arith}
use borrow.Author.Tests.{le-ltb}
use Rattle.tables.specs.Model.{Store, store_of, tabled, view_of}
use Rattle.storage.specs.Opening.{new_storage, new_model}
use Rattle.sound.specs.Sound.{TextId, set_name, dir_name, file_name, link_text, nowhere, span_of, sum_to, Sound}

module _ (n : ℕ) (indexed : Bool) (rows roots firsts dirs text : List ℕ) where
  abbrev opened : Store
  opened = store_of (new_storage n indexed) rows roots firsts dirs text

  span-opened : (p : TextId) → span_of opened p ≡ nowhere
  span-opened set_name = refl
  span-opened (dir_name k) = rw (le-ltb k 0 (omega arith))
  span-opened (file_name k) = rw (le-ltb k 0 (omega arith))
  span-opened (link_text k) = rw (le-ltb k 0 (omega arith))

  pub sound-opened : Sound opened
  unfolding sum_to
  sound-opened =
      record {
        rows-hold = omega arith;
        roots-hold = omega arith;
        dirs-hold = omega arith;
        text-holds = omega arith;
        few-files = omega arith;
        few-paths = omega arith;
        within = λ p. rw (span-opened p) (omega arith);
        apart = λ p q d. rw (span-opened p, span-opened q) (omega arith);
        full = refl;
        offsets = λ k h. absurd (omega arith);
        total = refl;
        limited = omega arith;
        on-disk = refl;
        unlinked = λ k h e. absurd (omega arith);
        placed = λ k h b. absurd (omega arith);
        indexed = λ k h. absurd (omega arith);
      }

  pub view-opened : view_of opened ≡ new_model n
  unfolding tabled
  view-opened = refl
