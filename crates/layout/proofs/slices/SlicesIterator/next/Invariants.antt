-- `layout::slices::Slices::next` meets its contract. The loop's invariant: no slice is taken yet, and the slices from the
-- file reached on are all that are to come.
use Rattle.std.proofs.Common.{◌≡◌, ◌-◌}
use Rattle.layout.specs.Mapping.{walk}
use Rattle.layout.specs.Start.{slices_left}
use Rattle.layout.proofs.slices.SlicesIterator.next.Given as goal

abbrev pub invariant-loop-file : goal.invariant-loop-file
invariant-loop-file l =
    (l.self ≡ l.fn.self) × (walk (l.fn.self.at.files - l.file) l.fn.self.rows.now l.file l.skip l.fn.self.at.left ≡ slices_left l.fn.self)
