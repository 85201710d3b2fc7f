-- `compatible::walk::same_rows` meets its contract: a turn compares a run of both rows, and goes on with what follows.
use Rattle.std.proofs.Common.{◌≡◌, ℕ, ◌<◌, length, arith, rules, ap, ◌∙◌, List, ◌++◌}
use Rattle.lists.specs.Lists.{equal}
use Rattle.compatible.specs.private.Walk.{bytes_of}
use Rattle.compatible.proofs.Runs.{turn-same, turn-differs, turned-same, turned-differs, next-piece, no-piece, none-left, some-left, some-behind}
use Rattle.compatible.proofs.walk.same_rows.Goals as goal

pub returns-then-ne : goal.returns-then-ne
returns-then-ne c =
    let cut = c.split_at.ensures in
    turn-differs _ _ _ _ (bytes_of c.loop-p.a.now) (bytes_of c.loop-p.b.now) cut.by_index.0 cut.front_len _ c.ne.ensures c.if-ne.true
    ∙ c.loop-p.invariant

pub returns-then-is_empty : goal.returns-then-is_empty
returns-then-is_empty c =
    let cut = c.split_at.ensures in
    let none : length c.split_at.result.1.now ≡ 0 = search rules in
    c.are_empty.ensures
    ∙ none-left _ _ (bytes_of c.loop-p.b.now) (no-piece c.loop-p.a.now c.in_default.len_below) none
    ∙ turn-same _ _ _ _ (bytes_of c.loop-p.a.now) (bytes_of c.loop-p.b.now) cut.by_index.0 cut.front_len _ c.ne.ensures c.if-ne.false
    ∙ c.loop-p.invariant

pub returns-else-is_empty : goal.returns-else-is_empty
returns-else-is_empty c =
    let cut = c.split_at.ensures in
    let some : 0 < length c.split_at.result.1.now = search rules in
    c.if-is_empty.false
    ∙ some-left _ _ (bytes_of c.loop-p.b.now) (no-piece c.loop-p.a.now c.in_default.len_below) some
    ∙ turn-same _ _ _ _ (bytes_of c.loop-p.a.now) (bytes_of c.loop-p.b.now) cut.by_index.0 cut.front_len _ c.ne.ensures c.if-ne.false
    ∙ c.loop-p.invariant

pub loop-p-preserved-then-p-q : goal.loop-p-preserved-then-p-q
loop-p-preserved-then-p-q c =
    let cut = c.split_at.ensures in
    ap (λ (l : List ℕ). equal l (c.split_at.result.1.now ++ bytes_of c.loop-p.b.now)) (next-piece c.loop-p.a.now _ c.in-len1-up.len_at_least)
    ∙ turn-same _ _ _ _ (bytes_of c.loop-p.a.now) (bytes_of c.loop-p.b.now) cut.by_index.0 cut.front_len _ c.ne.ensures c.if-ne.false
    ∙ c.loop-p.invariant

pub returns-then-ne-2 : goal.returns-then-ne-2
returns-then-ne-2 c =
    let cut = c.split_at-else-p-q.ensures in
    turned-differs _ _ _ _ (bytes_of c.loop-p.b.now) (bytes_of c.loop-p.a.now) cut.by_index.0 cut.front_len _ c.ne-else-p-q.ensures c.if-ne-2.true
    ∙ c.loop-p.invariant

pub returns-in_default-b : goal.returns-in_default-b
returns-in_default-b c =
    let cut = c.split_at-else-p-q.ensures in
    let some : 0 < length c.split_at-else-p-q.result.1.now = omega (arith, cut.back_len, c.if-p-q.false) in
    some-behind _ _ (bytes_of c.loop-p.a.now) (no-piece c.loop-p.b.now c.in_default-b.len_below) some
    ∙ turned-same _ _ _ _ (bytes_of c.loop-p.b.now) (bytes_of c.loop-p.a.now) cut.by_index.0 cut.front_len _ c.ne-else-p-q.ensures c.if-ne-2.false
    ∙ c.loop-p.invariant

pub loop-p-preserved : goal.loop-p-preserved
loop-p-preserved c =
    let cut = c.split_at-else-p-q.ensures in
    ap (λ (l : List ℕ). equal (c.split_at-else-p-q.result.1.now ++ bytes_of c.loop-p.a.now) l) (next-piece c.loop-p.b.now _ c.in-len1-up-b.len_at_least)
    ∙ turned-same _ _ _ _ (bytes_of c.loop-p.b.now) (bytes_of c.loop-p.a.now) cut.by_index.0 cut.front_len _ c.ne-else-p-q.ensures c.if-ne-2.false
    ∙ c.loop-p.invariant
