-- Finite sums and products of weights.
use Rattle.std.specs.Prelude.{ℕ, zero, suc, ◌<◌, List, [], ◌∷◌, length, slice_index_or}
use Rattle.semiring.specs.Algebra.{Algebra, Under}

-- The sum of a list of weights: zero for none.
abbrev pub total : {K : Type 0} → Algebra K → List K → K
total k [] = k.zero
total k (x ∷ xs) = k.plus x (total k xs)

-- The product of a list of weights: one for none.
abbrev pub product : {K : Type 0} → Algebra K → List K → K
product k [] = k.one
product k (x ∷ xs) = k.times x (product k xs)

-- f 0 + .. + f (n-1).
abbrev pub sum_to : {K : Type 0} → Algebra K → (ℕ → K) → ℕ → K
sum_to k f zero = k.zero
sum_to k f (suc n) = k.plus (sum_to k f n) (f n)

-- s is the least upper bound of a list: every weight of it lies under s, and s lies under every c
-- that they all lie under.
pub record LeastAbove {K : Type 0} (k : Algebra K) (xs : List K) (s : K) : Type 0 where
  pub above : (i : ℕ) → i < length xs → Under k (slice_index_or xs i k.zero) s
  pub least : (c : K) → ((i : ℕ) → i < length xs → Under k (slice_index_or xs i k.zero) c) → Under k s c
