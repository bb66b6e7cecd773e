-- Meeting the names of a calls word, one at a time from the left.
use Rattle.std.proofs.Common.{◌≡◌, ℕ, ◌+◌, ◌<◌, ◌≤◌, ◌==◌, Bool, false, Bor, ◌⊎◌, List, [], ◌∷◌, ◌++◌, length, get_or, take, drop, Some, None, Option, sym, refl, ap, ◌∙◌, subst, inl, inr, append_assoc, append-nil, arith, length-append}
use Rattle.std.proofs.lemmas.List.{take_more, take-append-drop}
use Rattle.std.proofs.lemmas.Iterator.{YieldsList}
use Rattle.std.proofs.lemmas.Iterator.Consumers.{YieldsList-at}
use Rattle.std.proofs.lemmas.Iterator.Splits.{YieldsList-from_slice_split}
use Rattle.std.specs.Fn.{CalledAt}
use Rattle.std.specs.Slice.Iter.{split_rest, split_done, split_callee, split_steps}
use Rattle.reader.specs.Format.{pieces, plus_sign}
use denote.Param.Members.{Mut}
use Rattle.reader.specs.Known.{Grows, Numbered}
use Rattle.script.specs.Legend.{Legend, number_of, met, all_met, numbers_of}
use Rattle.reader.proofs.Numbering.{Old, New, old_or_new}

-- a legend never loses a name
pub grows_on : (a b c : Legend) → Grows a b → Grows b c → Grows a c
grows_on a b c first then' = (first.0 ++ then'.0, then'.1 ∙ ap (λ l. l ++ then'.0) first.1 ∙ append_assoc a first.0 then'.0)

pub longer : (a b : Legend) → Grows a b → length a ≤ length b
longer a b g = omega (arith, ap length g.1, length-append a g.0)

same_grows : (a b : Legend) → b ≡ a → Grows a b
same_grows a b e = ([], e ∙ sym (append-nil a))

met_grows : (legend : Legend) (w : List ℕ) → Grows legend (met legend w)
met_grows legend w = go (old_or_new legend w)
  where
    go : Old legend w ⊎ New legend w → Grows legend (met legend w)
    go (inl old) = same_grows legend (met legend w) old.1
    go (inr new) = (w ∷ [], new.1)

pub numbered_grows : (before : Legend) (w : List ℕ) (r : Option ℕ) (after : Legend) → Numbered before w r after → Grows before after
numbered_grows before w None after h = same_grows before after h.1
numbered_grows before w (Some n) after h = subst (Grows before) (sym h.2) (met_grows before w)

pub all_met_grows : (legend : Legend) (ws : List (List ℕ)) → Grows legend (all_met legend ws)
all_met_grows legend [] = same_grows legend legend refl
all_met_grows legend (w ∷ ws) = grows_on legend (met legend w) (all_met (met legend w) ws) (met_grows legend w) (all_met_grows (met legend w) ws)

all_met-append : (legend : Legend) (xs ys : List (List ℕ)) → all_met legend (xs ++ ys) ≡ all_met (all_met legend xs) ys
all_met-append legend [] ys = refl
all_met-append legend (x ∷ xs) ys = all_met-append (met legend x) xs ys

numbers_push : (legend : Legend) (xs : List (List ℕ)) (w : List ℕ) → numbers_of legend (xs ++ w ∷ []) ≡ numbers_of legend xs ++ number_of (all_met legend xs) w ∷ []
numbers_push legend [] w = refl
numbers_push legend (x ∷ xs) w = ap (λ ns. number_of legend x ∷ ns) (numbers_push (met legend x) xs w)

pub length-numbers : (legend : Legend) (ws : List (List ℕ)) → length (numbers_of legend ws) ≡ length ws
length-numbers legend [] = refl
length-numbers legend (w ∷ ws) = omega (arith, length-numbers (met legend w) ws)

-- the loop over a calls word cut at its plus signs goes over its names
pub names_yielded :
    {F : Type 0} {s it : _} {f : F} (g : Mut F (Bor ℕ × Unit {0}) Bool) (word : List ℕ) →
    split_rest s ≡ word →
    split_done s ≡ false →
    split_callee s ≡ f →
    it ≡ s →
    ((b : ℕ) (r : Bool) (q : F) → CalledAt g f b r q → (q ≡ f) × (r ≡ (b == plus_sign))) →
    YieldsList (split_steps g) (λ name. name.now) it (pieces plus_sign word)
names_yielded g word rest done callee same told = YieldsList-at same (YieldsList-from_slice_split g (λ b. b == plus_sign) word rest done callee told)

-- the name at n, once those before it are met
module _ (legend : Legend) (ws : List (List ℕ)) (n : ℕ) (w : List ℕ) (within : n < length ws) (here : w ≡ get_or ws n w) where
  one_more : take (n + 1) ws ≡ take n ws ++ w ∷ []
  one_more = take_more ws n w within ∙ ap (λ x. take n ws ++ x ∷ []) (sym here)

  pub met_more : all_met legend (take (n + 1) ws) ≡ met (all_met legend (take n ws)) w
  met_more = ap (all_met legend) one_more ∙ all_met-append legend (take n ws) (w ∷ [])

  pub numbers_more : numbers_of legend (take (n + 1) ws) ≡ numbers_of legend (take n ws) ++ number_of (all_met legend (take n ws)) w ∷ []
  numbers_more = ap (numbers_of legend) one_more ∙ numbers_push legend (take n ws) w

  -- one name too many stays one too many
  pub too_many : 32 < length (met (all_met legend (take n ws)) w) → 32 < length (all_met legend ws)
  too_many over =
      let all = ap (all_met legend) (sym (take-append-drop (n + 1) ws)) ∙ all_met-append legend (take (n + 1) ws) (drop (n + 1) ws) in
      let more = longer _ _ (all_met_grows (all_met legend (take (n + 1) ws)) (drop (n + 1) ws)) in
      omega (arith, ap length all, more, ap length met_more)
