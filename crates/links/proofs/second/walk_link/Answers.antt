-- `links::second::walk_link` meets its contract: the walk is that of the link's text through the set's links, and the
-- marks that it used are made fresh again.
use mathlib.Core.Path.{refl, ◌∙◌}
use lib.ListN.{length}
use Rattle.links.specs.private.Walking.{set_of}
use Rattle.links.proofs.Walks.{open_is, first_path, first_walkable}
use Rattle.links.proofs.second.walk_link.Goals as goal

pub resolve-r-requires : goal.resolve-r-requires
resolve-r-requires c = first_walkable (set_of c.args.the_set) c.args.marks.now c.args.i (length c.args.frames.now) c.requires c.args.frames.now
    c.put_frame.new.frames refl c.put_frame.ensures

pub returns-clause-value : goal.returns-clause-value
returns-clause-value c =
    c.resolve-r.ensures.value
    ∙ rw (
      first_path (set_of c.args.the_set) c.args.marks.now c.args.i (length c.args.frames.now) c.requires c.args.frames.now c.put_frame.new.frames refl
          c.put_frame.ensures,
      open_is (set_of c.args.the_set) c.args.marks.now c.args.i (length c.args.frames.now) c.requires,
    )
