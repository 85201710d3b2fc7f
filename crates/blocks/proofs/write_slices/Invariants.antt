-- `blocks::write_slices` meets its contract. The loop's invariant: the slices that are left, put after those that came,
-- leave what all slices put into the columns at entry leave; those that came are counted, and with the rest they are all.
use mathlib.Core.Path.{◌≡◌}
use mathlib.Core.List.{List}
use lib.ListN.{length}
use lib.Seq.{sets}
use Prim.Native.Nat.{ℕ, ◌+◌}
use Rattle.std.specs.Iterator.Adapters.{enumerate_source, enumerate_count}
use Rattle.layout.specs.declared.slices.Slice.{Slice}
use Rattle.layout.specs.Mapping.{files_of, offsets_of, sizes_of}
use Rattle.layout.specs.Start.{slices_from, slices_left}
use Rattle.blocks.proofs.write_slices.Given as goal

-- `all` are the slices to put, `rest` those still to come
pub record Inv (rest all : List Slice) (f₀ o₀ s₀ f o s : List ℕ) (n count : ℕ) : Type 0 where
  pub counted : count ≡ n
  pub sum : n + length rest ≡ length all
  pub in_f : sets f n (files_of rest) ≡ sets f₀ 0 (files_of all)
  pub in_o : sets o n (offsets_of rest) ≡ sets o₀ 0 (offsets_of all)
  pub in_s : sets s n (sizes_of rest) ≡ sets s₀ 0 (sizes_of all)

abbrev pub invariant-loop-n : goal.invariant-loop-n
invariant-loop-n l =
    Inv (slices_left (enumerate_source l.n-iterator)) (slices_from l.rows l.fn.at) l.initial.out_file l.initial.out_offset l.initial.out_size
    l.out_file l.out_offset l.out_size (enumerate_count l.n-iterator) l.count
