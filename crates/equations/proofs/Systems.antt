-- Linear systems with the same entries have the same least solutions.
use Rattle.std.proofs.Common.{◌≡◌, ℕ, ◌<◌, ap, ◌∙◌, ap₂}
use Rattle.semiring.specs.Algebra.{Algebra}
use Rattle.semiring.proofs.Sums
use Rattle.linear.specs.System.{right_side, Least}

module _ {K : Type 0} (k : Algebra K) (n : ℕ) (a b : ℕ → ℕ → K) (c e : ℕ → K) (cells : (r q : ℕ) → r < n → q < n → a r q ≡ b r q) (column : (r : ℕ) → r < n → c r ≡ e r) where
  same_side : (x : ℕ → K) (r : ℕ) → r < n → right_side k n a c x r ≡ right_side k n b e x r
  same_side x r l = ap₂ k.plus (Sums.sum_to_ext k (λ q. k.times (a r q) (x q)) (λ q. k.times (b r q) (x q)) n (λ q m. ap (λ w. k.times w (x q)) (cells r q l m))) (column r l)

  pub least_same : (x : ℕ → K) → Least k n a c x → Least k n b e x
  least_same x solution = record {
    solves = λ r l. solution.solves r l ∙ same_side x r l;
    least = λ y h. solution.least y (λ r l. rw (same_side y r l) (h r l));
  }
