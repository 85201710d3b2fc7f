-- Texts that are written one after the other are written as one. Relies on the laws of runs of `lists`.
use Rattle.std.proofs.Common.{◌≡◌, ℕ, ◌+◌, List, [], ◌∷◌, length, refl, ◌∙◌}
use lib.Seq.{sets}
use Rattle.lists.proofs.Runs.{sets-append}
use Rattle.plan.specs.Write.{joined}

-- an area in which texts are written one after the other, from position p on
abbrev pub sets_each : List ℕ → ℕ → List (List ℕ) → List ℕ
sets_each l p [] = l
sets_each l p (t ∷ ts) = sets_each (sets l p t) (p + length t) ts

pub sets-joined : (l : List ℕ) (p : ℕ) (ts : List (List ℕ)) → sets l p (joined ts) ≡ sets_each l p ts
sets-joined l p [] = refl
sets-joined l p (t ∷ ts) = sets-append t (joined ts) l p ∙ sets-joined (sets l p t) (p + length t) ts
