-- The digits of a word, one at a time, and the value that they write.
use Rattle.std.proofs.Common.{◌≡◌, ℕ, ◌+◌, ◌-◌, ◌*◌, ◌<◌, ◌≤◌, Bool, true, false, ◌&&◌, leb, List, [], ◌∷◌, length, get_or, drop, sym, ap, ◌∙◌, le_trans, le_refl, arith}
use Rattle.std.specs.List.{list_all}
use Rattle.std.proofs.lemmas.List.{at_drop_more}
use Rattle.std.proofs.lemmas.Bool.{lt-leb, and_right}
use Rattle.reader.specs.Format.{digit, read_on}

-- more digits never make less
read_on_ge : (n : ℕ) (bs : List ℕ) → n ≤ read_on n bs
read_on_ge n [] = le_refl n
read_on_ge n (b ∷ bs) = le_trans (omega arith) (read_on_ge (n * 10 + (b - 48)) bs)

-- what is left of a word of digits behind the n that has been read, and a bound on the whole
abbrev pub fits : ℕ → ℕ → List ℕ → Bool
fits most n w = list_all digit w && leb (read_on n w) most

pub fits_more :
    (most n : ℕ) (xs : List ℕ) (i : ℕ) →
    i < length xs →
    digit (get_or xs i 0) ≡ true →
    fits most (n * 10 + (get_or xs i 0 - 48)) (drop (i + 1) xs) ≡ fits most n (drop i xs)
fits_more most n xs i within yes' =
    let rest = drop (i + 1) xs in
    let m = n * 10 + (get_or xs i 0 - 48) in
    sym (at_drop_more (fits most n) xs i 0 within ∙ ap (λ t. (t && list_all digit rest) && leb (read_on m rest) most) yes')

pub fits_past : (most n : ℕ) (w : List ℕ) → most < n → fits most n w ≡ false
fits_past most n w over = and_right (list_all digit w) _ (lt-leb _ _ (le_trans over (read_on_ge n w)))
