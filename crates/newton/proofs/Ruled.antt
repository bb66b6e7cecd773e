-- What is said of the rules that were listed is said of those that are held, the same ones.
use Rattle.std.proofs.Common.{◌≡◌, ℕ, ◌*◌, List, ap, ◌∙◌}
use Rattle.semiring.specs.Algebra.{Algebra}
use Rattle.equations.specs.Rule.{Rule}
use Rattle.equations.specs.Equations.{image, slope}
use Rattle.equations.specs.Held.{written, rows}
use Rattle.newton.proofs.Written.{copied, written_over}

module _ {K : Type 0} (k : Algebra K) {rules held : List (Rule K)} (same : rules ≡ held) (v : ℕ → K) (n : ℕ) where
  pub imaged : (xs ys : List K) → ys ≡ written (image k rules v) n xs → ys ≡ written (image k held v) n xs
  imaged xs ys is = is ∙ ap (λ rs. written (image k rs v) n xs) same

  pub sloped : (xs ys : List K) → ys ≡ written (rows n (slope k rules v)) (n * n) xs → ys ≡ written (rows n (slope k held v)) (n * n) xs
  sloped xs ys is = is ∙ ap (λ rs. written (rows n (slope k rs v)) (n * n) xs) same

-- what shows that the values have become f of the values
pub ruleset lifting = (imaged, copied, written_over)
