-- The lines of an input as std's `split` gives them: without the line feed at the input's end, cut at each other one. They rely
-- on the lines of `listing_input`.
use Rattle.std.specs.Prelude.{◌≢◌, Option, Some, None}
use Rattle.std.specs.Option.{MatchOption, unwrap_or}
use Rattle.std.specs.List.{slice_split, onto_first}
use Rattle.std.proofs.Common.{Bor}
use Prim.Native.Nat.{ℕ, suc, ◌+◌, ◌≤◌, ◌<◌}
use mathlib.Core.Path.{◌≡◌, refl, sym, ap, ◌∙◌}
use mathlib.Core.Bool.{Bool, true, false, cond}
use mathlib.Core.List.{List, [], ◌∷◌, ◌++◌, append-nil, append_assoc}
use native.Mathlib.Omega.{arith}
use borrow.Author.Tests.{eqb-true, le-ltb}
use lib.Dec.{eqb}
use lib.ListN.{length, length-append}
use Rattle.path.specs.Join.{is_empty}
use Rattle.listing_input.specs.Form.{lines_from, lines}
use Rattle.listing.specs.Run.{run_lines, run, places}

abbrev pub feed : List ℕ
feed = 10 ∷ []

abbrev pub parts : List ℕ → List (List ℕ)
parts text = slice_split (λ c. eqb c 10) text

-- how many they are
onto-count : (b : Bool) (c : ℕ) (ps : List (List ℕ)) (n : ℕ) → (0 < length ps) × (length ps ≤ n + 1)
    → (0 < length (cond b ([] ∷ ps) (onto_first c ps))) × (length (cond b ([] ∷ ps) (onto_first c ps)) ≤ suc n + 1)
onto-count true c ps n h = (omega arith, omega (arith, h.1))
onto-count false c [] n h = absurd (omega (arith, h.0))
onto-count false c (p ∷ ps) n h = (omega arith, omega (arith, h.1))

count-parts : (text : List ℕ) → (0 < length (parts text)) × (length (parts text) ≤ length text + 1)
count-parts [] = (omega arith, omega arith)
count-parts (c ∷ t) = onto-count (eqb c 10) c (parts t) (length t) (count-parts t)

-- what is already read of a line, before the first of the parts
onto : List ℕ → List (List ℕ) → List (List ℕ)
onto line [] = []
onto line (p ∷ ps) = (line ++ p) ∷ ps

onto-none : (ps : List (List ℕ)) → onto [] ps ≡ ps
unfolding onto
onto-none [] = refl
onto-none (p ∷ ps) = refl

onto-more : (line : List ℕ) (c : ℕ) (ps : List (List ℕ)) → 0 < length ps → onto (line ++ (c ∷ [])) ps ≡ onto line (onto_first c ps)
unfolding onto
onto-more line c [] h = absurd (omega (arith, h))
onto-more line c (p ∷ ps) h = ap (λ (l : List ℕ). l ∷ ps) (append_assoc line (c ∷ []) p)

-- a byte more: a line feed, or one of the line
module _ (line : List ℕ) (c : ℕ) (t : List ℕ) where
  parts-step : (b : Bool) (rest more : List (List ℕ)) → (b ≡ true → rest ≡ onto [] (parts t)) → (b ≡ false → more ≡ onto (line ++ (c ∷ [])) (parts t))
      → cond b (line ∷ rest) more ≡ onto line (cond b ([] ∷ parts t) (onto_first c (parts t)))
  unfolding onto
  parts-step true rest more p q = ap (λ (l : List ℕ). l ∷ rest) (sym (append-nil line)) ∙ ap (λ (ls : List (List ℕ)). (line ++ []) ∷ ls) (p refl ∙ onto-none (parts t))
  parts-step false rest more p q = q refl ∙ onto-more line c (parts t) (count-parts t).0

-- an input that ends in a line feed
ended-lines : (line text : List ℕ) → lines_from line (text ++ feed) ≡ onto line (parts text)
unfolding onto
ended-lines line [] = ap (λ (l : List ℕ). l ∷ []) (sym (append-nil line))
ended-lines line (c ∷ t) =
    parts-step line c t (eqb c 10) (lines_from [] (t ++ feed)) (lines_from (line ++ (c ∷ [])) (t ++ feed)) (λ e. ended-lines [] t) (λ e. ended-lines (line ++ (c ∷ [])) t)

-- one that does not
filled : (c : ℕ) (t : List ℕ) → ((front : List ℕ) → c ∷ t ≢ front ++ feed) → eqb c 10 ≡ true → is_empty t ≡ false
filled c [] h e = absurd (h [] (ap (λ (x : ℕ). x ∷ []) (eqb-true c 10 e)))
filled c (d ∷ t) h e = refl

plain-lines : (line text : List ℕ) → ((front : List ℕ) → text ≢ front ++ feed) → is_empty (line ++ text) ≡ false → lines_from line text ≡ onto line (parts text)
unfolding onto
plain-lines line [] h e = let k : is_empty line ≡ false = rw (append-nil line) at e in rw (k, append-nil line)
plain-lines line (c ∷ t) h e =
    let less : (front : List ℕ) → t ≢ front ++ feed = λ front k. h (c ∷ front) (ap (λ (l : List ℕ). c ∷ l) k) in
    parts-step line c t (eqb c 10) (lines_from [] t) (lines_from (line ++ (c ∷ [])) t)
    (λ q. plain-lines [] t less (filled c t h q))
    (λ q. plain-lines (line ++ (c ∷ [])) t less (rw (append_assoc line (c ∷ []) t) e))

-- the run over the parts is that over the input
plain-run : (input : List ℕ) → ((front : List ℕ) → input ≢ front ++ feed) → run_lines places (parts input) ≡ run_lines places (lines input)
plain-run [] h = refl
plain-run (c ∷ t) h = ap (run_lines places) (sym (plain-lines [] (c ∷ t) h refl ∙ onto-none (parts (c ∷ t))))

pub run-parts : (input : Bor (List ℕ)) (r : Option (Bor (List ℕ))) → MatchOption r ((front : List ℕ) → input.now ≢ front ++ feed) (λ x. input.now ≡ x.now ++ feed) → length input.now ≤ 65536
    → (0 < length (parts (unwrap_or r input).now)) × (length (parts (unwrap_or r input).now) ≤ 65537) × (run_lines places (parts (unwrap_or r input).now) ≡ run places input.now)
run-parts input None m h =
    let n = count-parts input.now in
    (n.0, omega (arith, n.1), rw (le-ltb 65536 (length input.now) h) (plain-run input.now m))
run-parts input (Some x) m h =
    let n = count-parts x.now in (
      n.0,
      omega (arith, n.1, ap length m, length-append x.now feed),
      rw (le-ltb 65536 (length input.now) h) (ap (run_lines places) (sym (ap lines m ∙ ended-lines [] x.now ∙ onto-none (parts x.now)))),
    )
