-- Laws of the search for a directory: the last index of a text among others, whether it is there, and both once one
-- more is stored; and the same of the search over a table's rows from the back.
use Rattle.std.proofs.Common.{◌≡◌, ℕ, zero, suc, ◌+◌, ◌-◌, ◌*◌, ◌/◌, ◌<◌, ◌≤◌, min, Bool, true, false, cond, not, ◌&&◌, ◌||◌, eqb, List, [], ◌∷◌, ◌++◌, map, length, take, Option, Some, None, unwrap_or, MatchOption, IsSomeAnd, Bor, Iter, sym, refl, ap, subst, ◌∙◌, true≢false, arith, length-append, length-take, get_or-take}
use mathlib.Core.Bool.{false≢true}
use borrow.Author.Tests.{eqb-true, eqb-false}
use lib.ListN.{length-map, get_or-eq_default}
use denote.Param.Members.{Mut, Called}
use Rattle.std.specs.Bool.{then_some}
use Rattle.std.specs.List.{FoldsTo}
use Rattle.std.specs.Iterator.{Yields, FindsPositionBack}
use Rattle.std.specs.Slice.Iter.{iter_rest, iter_steps_back}
use Rattle.std.specs.Simd.{first_chunks}
use Rattle.std.proofs.lemmas.List.{map-append, nil_from_length}
use Rattle.lists.specs.Lists.{equal, any}
use Rattle.lists.proofs.Tests.{any_append}
use Rattle.lists.proofs.Parts.{part_length}
use Rattle.lists.proofs.Equality.{equal-length}
use Rattle.tables.specs.declared.span.Span.{Span}
use Rattle.tables.specs.Span.{text_at}
use Rattle.tables.specs.Rows.{dir_at}
use Rattle.tables.specs.Model.{tabled, stored}
use Rattle.tables.proofs.Chunks.{row_of, row-texts}
use Rattle.tables.proofs.Tabled.{length-tabled, tabled-more, tabled-same}
use Rattle.additions.specs.Addition.{is_among, pad_directory_name}
use Rattle.plan.specs.Write.{directory_index_from, directory_index}
use Rattle.plan.specs.private.Steps.{dir_texts, dir_plan_of, dirs_with, count_with, known_at, added_at, plan_among}

-- one more text, at the end
pub index-more : (d : List ℕ) (xs : List (List ℕ)) (x : List ℕ) (found i : ℕ)
    → directory_index_from found i d (xs ++ (x ∷ [])) ≡ cond (equal d x) (i + length xs) (directory_index_from found i d xs)
unfolding directory_index_from
index-more d [] x found i = let e : i + 0 ≡ i = omega arith in rw e
index-more d (y ∷ xs) x found i =
    let e : i + suc (length xs) ≡ i + 1 + length xs = omega arith in
    rw e (index-more d xs x (cond (equal d y) i found) (i + 1))

-- a text that is not there has the index given for that; one that is there has an index among them, whatever is given
either-false : (a b : Bool) → cond a true b ≡ false → (a ≡ false) × (b ≡ false)
either-false true b e = absurd (true≢false e)
either-false false b e = (refl, e)

pub index-none : (d : List ℕ) (xs : List (List ℕ)) (found i : ℕ) → is_among d xs ≡ false → directory_index_from found i d xs ≡ found
unfolding directory_index_from
index-none d [] found i e = refl
index-none d (x ∷ xs) found i e =
    let p = either-false (equal d x) (any (equal d) xs) e in
    rw p.0 (index-none d xs found (i + 1) p.1)

pub index_in : (d : List ℕ) (xs : List (List ℕ)) (found i : ℕ) → is_among d xs ≡ true → directory_index_from found i d xs < i + length xs
unfolding directory_index_from
index_in d [] found i e = absurd (false≢true e)
index_in d (x ∷ xs) found i e = at (equal d x) (any (equal d) xs) refl e (index_in d xs) (index-none d xs)
  where
    at : (t u : Bool) → any (equal d) xs ≡ u → cond t true u ≡ true
        → ((found i : ℕ) → any (equal d) xs ≡ true → directory_index_from found i d xs < i + length xs)
        → ((found i : ℕ) → any (equal d) xs ≡ false → directory_index_from found i d xs ≡ found)
        → directory_index_from (cond t i found) (i + 1) d xs < i + suc (length xs)
    at t true q e f g = omega (arith, f (cond t i found) (i + 1) q)
    at true false q e f g = omega (arith, g i (i + 1) q)
    at false false q e f g = absurd (false≢true e)

pub index_same : (d : List ℕ) (xs : List (List ℕ)) (a b i : ℕ) → is_among d xs ≡ true → directory_index_from a i d xs ≡ directory_index_from b i d xs
unfolding directory_index_from
index_same d [] a b i e = absurd (false≢true e)
index_same d (x ∷ xs) a b i e = at (equal d x) e (index_same d xs a b (i + 1))
  where
    at : (t : Bool) → cond t true (any (equal d) xs) ≡ true
        → (any (equal d) xs ≡ true → directory_index_from a (i + 1) d xs ≡ directory_index_from b (i + 1) d xs)
        → directory_index_from (cond t i a) (i + 1) d xs ≡ directory_index_from (cond t i b) (i + 1) d xs
    at true e f = refl
    at false e f = f e

-- the index says whether the text is there
module _ (d : List ℕ) (xs : List (List ℕ)) where
  pub there : directory_index d xs < length xs → is_among d xs ≡ true
  there h = at (is_among d xs) refl
    where
      at : (t : Bool) → is_among d xs ≡ t → t ≡ true
      at true q = refl
      at false q = absurd (omega (arith, index-none d xs (length xs) 0 q))

  pub not_there : length xs ≤ directory_index d xs → is_among d xs ≡ false
  not_there h = at (is_among d xs) refl
    where
      at : (t : Bool) → is_among d xs ≡ t → t ≡ false
      at true q = absurd (omega (arith, index_in d xs (length xs) 0 q))
      at false q = refl

-- the search from the back: one more row, and what is found
module _ (g : ℕ → List ℕ) (d : List ℕ) (n i : ℕ) (h : 0 < i) where
  more : directory_index_from n 0 d (tabled i g) ≡ cond (equal d (g (i - 1))) (i - 1) (directory_index_from n 0 d (tabled (i - 1) g))
  more =
      let e : i ≡ suc (i - 1) = omega arith in
      let z : 0 + length (tabled (i - 1) g) ≡ i - 1 = omega (arith, length-tabled (i - 1) g) in
      ap (λ (k : ℕ). directory_index_from n 0 d (tabled k g)) e
      ∙ ap (directory_index_from n 0 d) (tabled-more (i - 1) g)
      ∙ index-more d (tabled (i - 1) g) (g (i - 1)) n 0
      ∙ ap (λ (k : ℕ). cond (equal d (g (i - 1))) k (directory_index_from n 0 d (tabled (i - 1) g))) z

  pub search-turn : equal d (g (i - 1)) ≡ false → directory_index_from n 0 d (tabled (i - 1) g) ≡ directory_index_from n 0 d (tabled i g)
  search-turn e = sym (more ∙ ap (λ (t : Bool). cond t (i - 1) (directory_index_from n 0 d (tabled (i - 1) g))) e)

  pub search-found : equal d (g (i - 1)) ≡ true → i - 1 ≡ directory_index_from n 0 d (tabled i g)
  search-found e = sym (more ∙ ap (λ (t : Bool). cond t (i - 1) (directory_index_from n 0 d (tabled (i - 1) g))) e)

pub search_is : (g : ℕ → List ℕ) (d : List ℕ) (n : ℕ) → directory_index_from n 0 d (tabled n g) ≡ directory_index d (tabled n g)
search_is g d n = rw (length-tabled n g)

-- rows that have another text do not change what is found
search-past : (g : ℕ → List ℕ) (d : List ℕ) (n m k : ℕ) → m + k ≤ n → ((j : ℕ) → m ≤ j → j < n → equal d (g j) ≡ false)
    → directory_index_from n 0 d (tabled m g) ≡ directory_index_from n 0 d (tabled (m + k) g)
search-past g d n m zero h f = let e : m + 0 ≡ m = omega arith in rw e
search-past g d n m (suc k) h f =
    let e : m + suc k - 1 ≡ m + k = omega arith in
    search-past g d n m k (omega arith) f
    ∙ ap (λ (i : ℕ). directory_index_from n 0 d (tabled i g)) (sym e)
    ∙ search-turn g d n (m + suc k) (omega arith) (ap (λ (i : ℕ). equal d (g i)) e ∙ f (m + k) (omega arith) (omega arith))

-- where more bytes stand behind a span's start than a text has, the area's end cannot cut the span to that length
pub length-differs : (d text : List ℕ) (s : Span) → s.at < length text - length d → (s.len ≡ length d → ⊥) → false ≡ equal d (text_at text s)
length-differs d text s h q = sym (equal-length d (text_at text s) (λ e. q (omega (arith, part_length text s.at s.len))))

-- the text of a directory row; past the table's end it is empty
abbrev pub row_text : List ℕ → List ℕ → ℕ → List ℕ
row_text dirs text i = text_at text (dir_at dirs i)

past : (dirs text : List ℕ) (i : ℕ) → length dirs / 2 ≤ i → row_text dirs text i ≡ []
past dirs text i h = let l : length dirs ≤ i * 2 + 1 = omega arith in rw (get_or-eq_default dirs 0 {n = i * 2 + 1} l)

-- where no row is stored there is none with the text
pub none-stored : (dirs text d : List ℕ) (n : ℕ) → n ≡ 0 → n ≡ directory_index d (dir_texts dirs text n)
unfolding tabled directory_index_from
none-stored dirs text d n e = rw e

-- the first m rows of a table, lent by themselves, have the same texts
front-texts : (dirs text : List ℕ) (m : ℕ) → m ≤ length dirs / 2 → dir_texts (take (m * 2) dirs) text (length (take (m * 2) dirs) / 2) ≡ dir_texts dirs text m
front-texts dirs text m h =
    let l : length (take (m * 2) dirs) / 2 ≡ m = omega (arith, length-take (m * 2) dirs) in
    ap (dir_texts (take (m * 2) dirs) text) l ∙ tabled-same m (row_text (take (m * 2) dirs) text) (row_text dirs text) same
  where
    same : (i : ℕ) → i < m → row_text (take (m * 2) dirs) text i ≡ row_text dirs text i
    same i q =
        let a : i * 2 < m * 2 = omega arith in
        let b : i * 2 + 1 < m * 2 = omega arith in
        rw (get_or-take (m * 2) dirs (i * 2) 0 a, get_or-take (m * 2) dirs (i * 2 + 1) 0 b)

-- so the last of n rows has the text, or only the rows before it that the table holds may have it
module _ (dirs text d : List ℕ) (n : ℕ) (h : 0 < n) where
  pub last-found : true ≡ equal d (row_text dirs text (n - 1)) → n - 1 ≡ directory_index d (dir_texts dirs text n)
  last-found e = search-found (row_text dirs text) d n n h (sym e) ∙ search_is (row_text dirs text) d n

  pub last-missed : (m : ℕ) → m ≡ min (n - 1) (length dirs / 2) → equal d (row_text dirs text (n - 1)) ≡ false
      → directory_index_from n 0 d (dir_texts (take (m * 2) dirs) text (length (take (m * 2) dirs) / 2)) ≡ directory_index d (dir_texts dirs text n)
  last-missed m e q =
      let k : m + (n - m) ≡ n = omega arith in
      ap (directory_index_from n 0 d) (front-texts dirs text m (omega arith))
      ∙ search-past (row_text dirs text) d n m (n - m) (omega arith) others
      ∙ ap (λ (i : ℕ). directory_index_from n 0 d (dir_texts dirs text i)) k
      ∙ search_is (row_text dirs text) d n
    where
      others : (j : ℕ) → m ≤ j → j < n → equal d (row_text dirs text j) ≡ false
      others j l b = at (eqb j (n - 1)) refl
        where
          at : (t : Bool) → eqb j (n - 1) ≡ t → equal d (row_text dirs text j) ≡ false
          at true p = ap (λ (i : ℕ). equal d (row_text dirs text i)) (eqb-true j (n - 1) p) ∙ q
          at false p =
              let c = eqb-false j (n - 1) p in
              ap (equal d) (past dirs text j (omega (arith, c)) ∙ sym (past dirs text (n - 1) (omega (arith, c)))) ∙ q

-- the search over items from the back, where a call of f tells whether an item's text is d. Its invariant: the index
-- among the items that are left is that among all, as those that are gone have another text
module _ {A F : Type 0} {g : Mut F (Bor A × Unit {0}) Bool} {f : F} (text-of : A → List ℕ) (d : List ℕ) (n : ℕ)
    (asks : (x : Bor A) (b : Bool) (q : F) → Called g f (x, tt) b q → (q ≡ f) × (b ≡ equal d (text-of x.now))) where
  abbrev index_left : Iter A → ℕ
  index_left s = directory_index_from n 0 d (map text-of (iter_rest s))

  -- an item is the last of those that were left
  last-item : (s t : Iter A) (x : Bor A) (b : Bool) → iter_steps_back s (Some x) t → b ≡ equal d (text-of x.now)
      → (length (iter_rest s) ≡ length (iter_rest t) + 1) × (index_left s ≡ cond b (length (iter_rest t)) (index_left t))
  last-item s t x b step e =
      let l : 0 + length (map text-of (iter_rest t)) ≡ length (iter_rest t) = omega (arith, length-map (iter_rest t) text-of) in (
        ap length step ∙ length-append (iter_rest t) (x.now ∷ []),
        ap (λ (ys : List A). directory_index_from n 0 d (map text-of ys)) step
            ∙ ap (directory_index_from n 0 d) (map-append text-of (iter_rest t) (x.now ∷ []))
            ∙ index-more d (map text-of (iter_rest t)) (text-of x.now) n 0
            ∙ rw (l, ← e),
      )

  -- the items with another text
  passed : (xs : List (Bor A)) (s t : Iter A) (q : F) → Yields iter_steps_back s xs t → FoldsTo (λ p x r. Called g p (x, tt) false r) f xs q
      → (q ≡ f) × (length (iter_rest t) + length xs ≡ length (iter_rest s)) × (index_left t ≡ index_left s)
  passed [] s t q y c = (sym c, omega (arith, ap (λ (u : Iter A). length (iter_rest u)) y), ap index_left (sym y))
  passed (x ∷ xs) s t q (v, step, y) (h, call, c) =
      let said = asks x false h call in
      let one = last-item s v x false step said.1 in
      let rest = passed xs v t q y (subst (λ (k : F). FoldsTo (λ p x r. Called g p (x, tt) false r) k xs q) said.0 c) in
      (rest.0, omega (arith, rest.1, one.0), rest.2 ∙ sym one.1)

  -- the item at which the search ends has the text, or none is left
  ended : (o : Option (Bor A)) (r : Option ℕ) (k : ℕ) (t u : Iter A) (q : F) → iter_steps_back t o u → q ≡ f
      → MatchOption o (r ≡ None) (λ x. IsSomeAnd r (λ j. j + 1 + k ≡ length (iter_rest t) + k) × ((h : F) × Called g q (x, tt) true h)) → unwrap_or r n ≡ index_left t
  unfolding directory_index_from
  ended None r k t u q step e is =
      ap (λ (z : Option ℕ). unwrap_or z n) is ∙ ap (λ (ys : List A). directory_index_from n 0 d (map text-of ys)) (sym (nil_from_length (iter_rest t) step.0))
  ended (Some x) None k t u q step e is = absurd is.0
  ended (Some x) (Some j) k t u q step e (is, (h, call)) =
      let said = asks x true h (subst (λ (p : F). Called g p (x, tt) true h) e call) in
      let one = last-item t u x true step said.1 in
      let z : j ≡ length (iter_rest u) = omega (arith, one.0) in
      z ∙ sym one.1

  -- both, from the call's clause `ran`
  found-back : (s u : Iter A) (r : Option ℕ) → FindsPositionBack iter_steps_back g s f (length (iter_rest s)) r u → unwrap_or r n ≡ index_left s
  found-back s u r (xs, o, q, (t, y, last), c, so) =
      let p = passed xs s t q y c in
      ended o r (length xs) t u q last p.0 (rw p.1 so) ∙ p.2

-- the same over the rows of a table
pub found-row : {F : Type 0} {g : Mut F (Bor (List ℕ) × Unit {0}) Bool} {f : F} (dirs text d : List ℕ) (n : ℕ) (s u : Iter (List ℕ)) (r : Option ℕ)
    → ((x : Bor (List ℕ)) (b : Bool) (q : F) → Called g f (x, tt) b q → (q ≡ f) × (b ≡ equal d (text_at text (row_of x.now))))
    → iter_rest s ≡ first_chunks 2 (length dirs / 2) dirs → FindsPositionBack iter_steps_back g s f (length (iter_rest s)) r u
    → unwrap_or r n ≡ directory_index_from n 0 d (dir_texts dirs text (length dirs / 2))
found-row dirs text d n s u r asks is ran =
    found-back (λ ws. text_at text (row_of ws)) d n asks s u r ran
    ∙ ap (λ (ys : List (List ℕ)). directory_index_from n 0 d (map (λ ws. text_at text (row_of ws)) ys)) is
    ∙ ap (directory_index_from n 0 d) (row-texts text (length dirs / 2) dirs (omega arith))

-- the plan of a directory that the search found, and of one that it did not
module _ (d : List ℕ) (xs : List (List ℕ)) (n : ℕ) (l : length xs ≡ n) where
  pub old-is : (k m : ℕ) → k ≡ directory_index d xs → is_among d xs ≡ true → m ≡ n → known_at k m ≡ dir_plan_of (stored d false) xs
  old-is k m e h f = rw (h, ← e, f, l)

  pub new_is : (m : ℕ) → is_among d xs ≡ false → m ≡ n → added_at m (length d) ≡ dir_plan_of (stored d false) xs
  new_is m h f =
      let p : directory_index d xs ≡ n = index-none d xs (length xs) 0 h ∙ l in
      rw (h, p, f, length-append xs (d ∷ []), l)

  pub plan-stored : plan_among d n xs ≡ dir_plan_of (stored d false) xs
  plan-stored = at (is_among d xs) refl
    where
      at : (t : Bool) → is_among d xs ≡ t
          → cond t (known_at (directory_index d xs) n) (added_at n (length d)) ≡ dir_plan_of (stored d false) xs
      at true q = old-is (directory_index d xs) n refl q refl
      at false q = new_is n q refl

-- the same where n directories come before it, some of them not among those
module _ (d : List ℕ) (xs : List (List ℕ)) (n : ℕ) where
  pub found : (k : ℕ) → k < length xs → k ≡ directory_index d xs → known_at k n ≡ plan_among d n xs
  found k h e = let t = there d xs (omega arith) in rw (t, e)

  pub missing : length xs ≡ directory_index d xs → added_at n (length d) ≡ plan_among d n xs
  missing e = rw (not_there d xs (omega arith))

-- the length of a text that is new
pub length-new : (t : Bool) (d : List ℕ) → then_some (not t) (length (cond t [] d)) ≡ then_some (not t) (length d)
length-new true d = refl
length-new false d = refl

-- the same once a file's directory is stored, where that is new
pub with-length : (new : Bool) (d : List ℕ) (xs : List (List ℕ)) (n : ℕ) → length xs ≡ n → length (dirs_with new d xs) ≡ count_with new n
with-length true d xs n l = length-append xs (d ∷ []) ∙ omega arith
with-length false d xs n l = omega arith

module _ (p : List ℕ) (d : List ℕ) (xs : List (List ℕ)) where
  among-with : (t u : Bool) → any (equal p) xs ≡ t → equal p d ≡ u → is_among p (xs ++ (d ∷ [])) ≡ (t || cond u true false)
  among-with t u a b = any_append (equal p) xs (d ∷ []) ∙ rw (a, b)

  pub own-there : (new : Bool) → (new && equal p d) ≡ true → is_among p (dirs_with new d xs) ≡ true
  own-there true e = at (any (equal p) xs) refl
    where
      at : (t : Bool) → any (equal p) xs ≡ t → is_among p (xs ++ (d ∷ [])) ≡ true
      at true q = among-with true true q e
      at false q = among-with false true q e
  own-there false e = absurd (false≢true e)

  pub own-index : (new : Bool) → (new && equal p d) ≡ true → length xs ≡ directory_index p (dirs_with new d xs)
  own-index true e =
      let z : 0 + length xs ≡ length xs = omega arith in
      sym (index-more p xs d (length (xs ++ (d ∷ []))) 0 ∙ rw (e, z))
  own-index false e = absurd (false≢true e)

  module _ (a : is_among p xs ≡ true) where
    pub old-there : (new : Bool) → (new && equal p d) ≡ false → is_among p (dirs_with new d xs) ≡ true
    old-there true e = among-with true false a e
    old-there false e = a

    pub old-index : (new : Bool) → (new && equal p d) ≡ false → directory_index p xs ≡ directory_index p (dirs_with new d xs)
    old-index true e =
        index_same p xs (length xs) (length (xs ++ (d ∷ []))) 0 a ∙ sym (index-more p xs d (length (xs ++ (d ∷ []))) 0 ∙ rw e)
    old-index false e = refl

  pub new-there : (new : Bool) → (new && equal p d) ≡ false → is_among p xs ≡ false → is_among p (dirs_with new d xs) ≡ false
  new-there true e a = among-with false false a e
  new-there false e a = a

-- the plan of a pad's directory, where a file's own is new or not
module _ (new : Bool) (d : List ℕ) (xs : List (List ℕ)) (n count : ℕ) (l : length xs ≡ n) (c : count ≡ count_with new n) where
  abbrev ds : List (List ℕ)
  ds = dirs_with new d xs

  together : length ds ≡ count
  together = with-length new d xs n l ∙ sym c

  pub pad-own : (new && equal pad_directory_name d) ≡ true → known_at n count ≡ dir_plan_of (stored pad_directory_name false) ds
  pad-own e =
      old-is pad_directory_name ds count together n count (sym l ∙ own-index pad_directory_name d xs new e) (own-there pad_directory_name d xs new e) refl

  pub pad-stored : (new && equal pad_directory_name d) ≡ false → plan_among pad_directory_name count xs ≡ dir_plan_of (stored pad_directory_name false) ds
  pad-stored e = at (is_among pad_directory_name xs) refl
    where
      at : (t : Bool) → is_among pad_directory_name xs ≡ t
          → cond t (known_at (directory_index pad_directory_name xs) count) (added_at count 4) ≡ dir_plan_of (stored pad_directory_name false) ds
      at true q =
          old-is pad_directory_name ds count together (directory_index pad_directory_name xs) count
          (old-index pad_directory_name d xs q new e) (old-there pad_directory_name d xs q new e) refl
      at false q = new_is pad_directory_name ds count together count (new-there pad_directory_name d xs new e q) refl

-- the rows of a table have as many texts
pub counted : (dirs text : List ℕ) (n : ℕ) → length (dir_texts dirs text n) ≡ n
counted dirs text n = length-tabled n (row_text dirs text)

-- what the plan of a file's directory needs, and that of a pad's
pub ruleset planning = (plan-stored, counted)

pub ruleset padding = (pad-own, pad-stored, counted)
