-- A name among the names met so far: found at its place, or new and put last.
use Rattle.std.proofs.Common.{◌≡◌, ℕ, suc, ◌<◌, Bool, true, false, cond, ◌⊎◌, List, [], ◌∷◌, ◌++◌, length, refl, ap, ◌∙◌, inl, inr, arith}
use Rattle.std.specs.Str.{bytes_eq}
use Rattle.script.specs.Legend.{Legend, number_of, met}

-- a name that was met has a number below the count, and meeting it again changes nothing
abbrev pub Old : Legend → List ℕ → Type 0
Old legend w = (number_of legend w < length legend) × (met legend w ≡ legend)

-- a new name has the next number, and comes last
abbrev pub New : Legend → List ℕ → Type 0
New legend w = (number_of legend w ≡ length legend) × (met legend w ≡ legend ++ w ∷ [])

pub old_or_new : (legend : Legend) (w : List ℕ) → Old legend w ⊎ New legend w
old_or_new [] w = inr (refl, refl)
old_or_new (x ∷ xs) w = go (bytes_eq x w) refl (old_or_new xs w)
  where
    at : (t : Bool) → bytes_eq x w ≡ t → (number_of (x ∷ xs) w ≡ cond t 0 (suc (number_of xs w))) × (met (x ∷ xs) w ≡ cond t (x ∷ xs) (x ∷ met xs w))
    at t e = (ap (λ s. cond s 0 (suc (number_of xs w))) e, ap (λ s. cond s (x ∷ xs) (x ∷ met xs w)) e)

    go : (t : Bool) → bytes_eq x w ≡ t → Old xs w ⊎ New xs w → Old (x ∷ xs) w ⊎ New (x ∷ xs) w
    go true e h = let a = at true e in inl (omega (arith, a.0), a.1)
    go false e (inl h) = let a = at false e in inl (omega (arith, a.0, h.0), a.1 ∙ ap (λ l. x ∷ l) h.1)
    go false e (inr h) = let a = at false e in inr (a.0 ∙ ap suc h.0, a.1 ∙ ap (λ l. x ∷ l) h.1)
