-- Names that are numbered as first met: with the first `seen` of them in the legend, a number that
-- is at most `seen` comes back from its name.
use Rattle.std.proofs.Common.{◌≡◌, ℕ, zero, suc, ◌<◌, ◌≤◌, max, Bool, true, false, cond, ◌⊎◌, List, [], ◌∷◌, ◌++◌, map, length, get_or, take, sym, refl, ap, ◌∙◌, subst, inl, inr, le_of_suc-le-suc, not-suc-le-zero, arith}
use Rattle.std.specs.Str.{bytes_eq}
use Rattle.std.proofs.lemmas.Slice.Eq.{bytes_eq-Decides}
use Rattle.std.proofs.lemmas.List.{get_or-take, take_more, length-take-le}
use Rattle.std.proofs.lemmas.Bool.{cond-true, cases_lt}
use Rattle.script.specs.Legend.{Legend, number_of, met, all_met, numbers_of}
use Rattle.reader.specs.Writing.{name_of, GoodNames, seen_after, AsMet}
use Rattle.reader.proofs.Numbering.{Old, New, old_or_new}
use Rattle.reader.proofs.WrittenCalls.{HaveNames}

-- at the number of a name that was met stands that name
named : (legend : Legend) (w : List ℕ) → number_of legend w < length legend → get_or legend (number_of legend w) [] ≡ w
named [] w below = absurd (not-suc-le-zero below)
named (x ∷ xs) w below = go (bytes_eq x w) refl (named xs w) below
  where
    go :
        (t : Bool) →
        bytes_eq x w ≡ t →
        (number_of xs w < length xs → get_or xs (number_of xs w) [] ≡ w) →
        cond t 0 (suc (number_of xs w)) < suc (length xs) →
        get_or (x ∷ xs) (cond t 0 (suc (number_of xs w))) [] ≡ w
    go true e behind h = (bytes_eq-Decides x w).0 e
    go false e behind h = behind (le_of_suc-le-suc h)

-- a name that stands in the legend has been met by then
number_upto : (legend : Legend) (k : ℕ) → k < length legend → number_of legend (get_or legend k []) ≤ k
number_upto [] k below = absurd (not-suc-le-zero below)
number_upto (x ∷ xs) zero below = omega (arith, cond-true (bytes_eq x x) 0 (suc (number_of xs x)) ((bytes_eq-Decides x x).1 refl))
number_upto (x ∷ xs) (suc k) below = go (bytes_eq x (get_or xs k [])) (number_upto xs k (le_of_suc-le-suc below))
  where
    go : (t : Bool) → number_of xs (get_or xs k []) ≤ k → cond t 0 (suc (number_of xs (get_or xs k []))) ≤ suc k
    go true h = omega arith
    go false h = omega arith

-- Numbers are read back from their names, and the legend has as many names as have been seen.
pub record Back (names : Legend) (seen : ℕ) (ms : List ℕ) : Type 0 where
  pub numbers : numbers_of (take seen names) (map (name_of names) ms) ≡ ms
  pub met : all_met (take seen names) (map (name_of names) ms) ≡ take (seen_after seen ms) names
  pub within : seen_after seen ms ≤ length names

module _ (names : Legend) (good : GoodNames names) where
  -- one name
  module _ (seen m : ℕ) (within : seen ≤ length names) (known : m < length names) (next : m ≤ seen) where
    abbrev legend : Legend
    legend = take seen names

    long : length legend ≡ seen
    long = length-take-le seen names within

    -- the name is new only where it is the next
    new_last : New legend (name_of names m) → m ≡ seen
    new_last new = go (cases_lt m seen)
      where
        go : (m < seen) ⊎ (seen ≤ m) → m ≡ seen
        go (inl below) =
            let upto = subst (λ w. number_of legend w ≤ m) (get_or-take seen names m [] below) (number_upto legend m (omega (arith, long))) in
            omega (arith, new.0, long, upto)
        go (inr above) = omega arith

    one_back : (number_of legend (name_of names m) ≡ m) × (met legend (name_of names m) ≡ take (max seen (suc m)) names)
    one_back = go (old_or_new legend (name_of names m))
      where
        go : Old legend (name_of names m) ⊎ New legend (name_of names m) → (number_of legend (name_of names m) ≡ m) × (met legend (name_of names m) ≡ take (max seen (suc m)) names)
        go (inl old) =
            let n = number_of legend (name_of names m) in
            let below : n < seen = omega (arith, long, old.0) in
            let same : n ≡ m = good.apart n m (omega arith) known (sym (get_or-take seen names n [] below) ∙ named legend (name_of names m) old.0) in
            (same, old.1 ∙ ap (λ k. take k names) (omega arith))
        go (inr new) =
            let last : m ≡ seen = new_last new in (
              omega (arith, new.0, long),
              new.1 ∙ ap (λ k. legend ++ get_or names k [] ∷ []) last ∙ sym (take_more names seen [] (omega arith)) ∙ ap (λ k. take k names) (omega arith),
            )

  -- several, from the left
  pub all_back : (seen : ℕ) (ms : List ℕ) → seen ≤ length names → HaveNames names ms → AsMet seen ms → Back names seen ms
  all_back seen [] within known order = record { numbers = refl; met = refl; within = within }
  all_back seen (m ∷ ms) within known order =
      let one = one_back seen m within known.0 order.0 in
      let others = all_back (max seen (suc m)) ms (omega (arith, known.0)) known.1 order.1 in
      record {
        numbers = (λ i. one.0 i ∷ numbers_of (one.1 i) (map (name_of names) ms)) ∙ ap (λ ns. m ∷ ns) others.numbers;
        met = ap (λ l. all_met l (map (name_of names) ms)) one.1 ∙ others.met;
        within = others.within;
      }
