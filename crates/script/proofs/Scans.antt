-- Laws of the scans of a line: how far a scan goes, the words that are left, and their number.
use Rattle.std.proofs.Common.{ℕ, suc, ◌+◌, ◌-◌, ◌<◌, Bool, true, false, not, cond, eqb, List, [], ◌∷◌, length, drop, ◌≡◌, refl, sym, ap, ◌∙◌, arith, ne_eqb}
use Rattle.std.specs.List.{filter, slice_split, onto_first}
use Rattle.std.proofs.lemmas.List.{drop-drop}
use Rattle.lists.specs.Lists.{unblanked}
use Rattle.script.specs.Words.{count_before, blanks_of, word_end, from_word, words_from}

count-by : (b : Bool) (n : ℕ) → cond b 0 (suc n) ≡ cond b 0 (1 + n)
count-by true n = refl
count-by false n = omega arith

pub before-more : (c x : ℕ) (xs : List ℕ) → count_before c (x ∷ xs) ≡ cond (eqb x c) 0 (1 + count_before c xs)
before-more c x xs = count-by (eqb x c) (count_before c xs)

blank-by : (b : Bool) (n c : ℕ) (t u : List ℕ) → u ≡ drop n t → cond b u (c ∷ t) ≡ drop (cond b (suc n) 0) (c ∷ t)
blank-by true n c t u e = e
blank-by false n c t u e = refl

-- the bytes without the blanks at their start are what stands from their first other byte on
pub blanks_passed : (l : List ℕ) → unblanked l ≡ drop (blanks_of l) l
blanks_passed [] = refl
blanks_passed (c ∷ t) = blank-by (eqb c 32) (blanks_of t) c t (unblanked t) (blanks_passed t)

-- the next word, from what the word before leaves of the line
pub word-turn : (n i k : ℕ) (l s : List ℕ) → i < n → k ≡ word_end l → s ≡ drop k l → from_word (n - (i + 1)) s ≡ from_word (n - i) l
word-turn n i k l s h e p = let q : n - i ≡ suc (n - (i + 1)) = omega arith in rw (q, p, e)

-- the same, where the blanks before that word are passed first
pub word_passed : (n i : ℕ) (l u s : List ℕ) → i < n → u ≡ unblanked l → s ≡ drop (count_before 32 u) u → from_word (n - (i + 1)) s ≡ from_word (n - i) l
word_passed n i l u s h e p = word-turn n i (word_end l) l s h refl (p ∙ rw (e, blanks_passed l) (drop-drop (count_before 32 (drop (blanks_of l) l)) (blanks_of l) l))

-- how many parts hold a byte
abbrev pub held-parts : List (List ℕ) → ℕ
held-parts parts = length (filter (λ w. not (eqb (length w) 0)) parts)

held-more : (x : ℕ) (w : List ℕ) (parts : List (List ℕ)) → held-parts ((x ∷ w) ∷ parts) ≡ suc (held-parts parts)
held-more x w parts =
    let rest = filter (λ w. not (eqb (length w) 0)) parts in
    ap (λ b. length (cond (not b) ((x ∷ w) ∷ rest) rest)) (ne_eqb (suc (length w)) 0 (λ e. omega (arith, e)))

-- a byte c before a line, where b says whether it is a blank and k the line's words: how many parts hold a byte
blank-parts : (b : Bool) (c : ℕ) (parts : List (List ℕ)) (k : Bool → ℕ) → held-parts parts ≡ k false → held-parts (onto_first c parts) ≡ suc (k true)
    → held-parts (cond b ([] ∷ parts) (onto_first c parts)) ≡ cond b 0 1 + k (not b)
blank-parts true c parts k p q = omega (arith, p)
blank-parts false c parts k p q = omega (arith, q)

-- the same with a byte x of a word before it
onto-parts : (b : Bool) (x c : ℕ) (parts : List (List ℕ)) (k : Bool → ℕ) → held-parts parts ≡ k false → held-parts (onto_first c parts) ≡ suc (k true)
    → held-parts (onto_first x (cond b ([] ∷ parts) (onto_first c parts))) ≡ suc (k (not b))
onto-parts true x c parts k p q = held-more x [] parts ∙ ap suc p
onto-parts false x c [] k p q = q
onto-parts false x c (part ∷ parts) k p q = held-more x (c ∷ part) parts ∙ sym (held-more c part parts) ∙ q

-- the words of a line are the parts between its blanks that hold a byte; the second fact is for a line after a byte x of a word
pub words-parted : (line : List ℕ) → (held-parts (slice_split (λ b. eqb b 32) line) ≡ words_from false line)
    × ((x : ℕ) → held-parts (onto_first x (slice_split (λ b. eqb b 32) line)) ≡ suc (words_from true line))
words-parted [] = (refl, λ x. refl)
words-parted (c ∷ t) =
    let k = λ (within : Bool). words_from within t in
    let more = words-parted t in
    let parts = slice_split (λ b. eqb b 32) t in
    (blank-parts (eqb c 32) c parts k more.0 (more.1 c), λ x. omega (arith, onto-parts (eqb c 32) x c parts k more.0 (more.1 c)))
