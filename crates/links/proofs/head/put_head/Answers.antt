-- `links::head::put_head` meets its contract: the bytes that are written are the path's, one after another.
use mathlib.Core.Path.{◌≡◌, ap, ◌∙◌}
use native.Mathlib.Omega.{arith}
use Rattle.std.proofs.Common.{rules}
use lib.ListN.{length}
use Rattle.rope.specs.Rope.{bytes_left}
use Rattle.links.proofs.Heads.{filled, next_left}
use Rattle.links.proofs.head.put_head.Goals as goal

pub returns : goal.returns
returns c =
    let written = c.fill_with.new.self in
    let left = c.bytes_from-bytes.ensures in
    let long : length written ≡ length c.args.head.now = c.fill_with.ensures.len in
    filled _ (λ f. bytes_left f.0) (λ f h x y ys q e. search (rules, next_left)) written _ c.fill_with.ensures.ran.0 c.fill_with.ensures.ran.1 (omega (arith, long, ap length left))
    ∙ rw (long, left)
