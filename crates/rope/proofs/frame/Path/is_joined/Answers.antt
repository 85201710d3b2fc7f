-- `rope::frame::Path::is_joined` meets its contract: the bytes of the join are held against the first e bytes.
use mathlib.Core.Path.{◌≡◌, sym, ap, ◌∙◌}
use mathlib.Core.List.{◌++◌, append_assoc}
use lib.ListN.{length, take}
use Rattle.std.proofs.lemmas.Iterator.{YieldsList-from_slice, YieldsList-from_take}
use Rattle.std.proofs.lemmas.Iterator.Consumers.{YieldsList-at, YieldsList-from_chain, YieldsList-from_copied, YieldsList-from_first}
use Rattle.path.specs.Join.{appended}
use Rattle.path.proofs.Joins.{parts}
use Rattle.rope.specs.Rope.{held, bytes_left}
use Rattle.rope.proofs.Comparing.{eq_from_yields_List}
use Rattle.rope.proofs.Fronting.{front_long}
use Rattle.rope.proofs.frame.Path.is_joined.Goals as goal

pub returns-then-joined_length-e : goal.returns-then-joined_length-e
returns-then-joined_length-e c =
    let kept = c.join_prefix.result.0.now in
    let separator = c.join_prefix.result.1.now in
    let n = c.args.n.now in
    let join = appended c.args.d.now n in
    let long : length join ≡ c.args.e = sym c.joined_length.ensures ∙ c.if-joined_length-e.true in
    let whole : (kept ++ separator) ++ n ≡ join = append_assoc kept separator n ∙ rw (c.join_prefix.ensures.branch, c.join_prefix.ensures.separator) (parts c.args.d.now n) in
    let first = YieldsList-at c.chain.ensures.first (YieldsList-from_slice kept c.iter.ensures.rest) in
    let two = YieldsList-from_chain first (YieldsList-from_slice {s = c.chain.result.b} separator c.chain.ensures.second.0) c.chain.ensures.first_done c.chain.ensures.second_done in
    let three = YieldsList-from_chain (YieldsList-at c.chain-2.ensures.first two) (YieldsList-from_slice {s = c.chain-2.result.b} n c.chain-2.ensures.second.0) c.chain-2.ensures.first_done c.chain-2.ensures.second_done in
    eq_from_yields_List {ys = take c.args.e (held c.args.self)} (λ x y. y ≡ x) c.take.result c.eq.result c.eq.ensures.ran
    (YieldsList-from_copied (YieldsList-at c.copied-joined.ensures.source three))
    (λ it b. YieldsList-from_take {s = it} c.args.e (YieldsList-from_first (λ x. x) bytes_left (held c.args.self) (ap (λ t. bytes_left t.iter) b ∙ ap bytes_left c.take.ensures.source ∙ c.bytes_from.ensures)) (ap (λ t. t.n) b ∙ c.take.ensures.count))
    ∙ rw (whole) (front_long join (held c.args.self) c.args.e long)
