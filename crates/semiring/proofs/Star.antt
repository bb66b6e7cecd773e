-- The star of a kind: star(a) × b is the least solution of x = a x + b, and what follows.
use Rattle.std.proofs.Common.{◌≡◌, ℕ, sym, ap, ◌∙◌, subst}
use Rattle.semiring.specs.Algebra.{Algebra, Under, power}
use Rattle.semiring.specs.Equation.{LeastSolution, StarLaws}
use Rattle.semiring.proofs.Dioid.{dioid, FiniteStar}
use Rattle.semiring.proofs.Order
use Rattle.semiring.proofs.Powers

module _ {K : Type 0} (k : Algebra K) where
  pub star_step : (a : K) → k.plus k.one (k.times a (k.star a)) ≡ k.star a
  star_step a = Powers.finite_step (dioid k) (k.laws.star_finite a)

  pub one_under_star : (a : K) → Under k k.one (k.star a)
  one_under_star a = Powers.finite_above (dioid k) (k.laws.star_finite a)

  pub star_kept : (a : K) → Under k (k.times a (k.star a)) (k.star a)
  star_kept a = Powers.finite_kept (dioid k) (k.laws.star_finite a)

  pub under_star : (a : K) → Under k a (k.star a)
  under_star a = Order.under_trans (dioid k) (rw (k.laws.times_one a) at (Order.times_mono_right (dioid k) a (one_under_star a))) (star_kept a)

  pub power_under_star : (a : K) (i : ℕ) → Under k (power k.one k.times a i) (k.star a)
  power_under_star a i =
      Order.under_trans (dioid k) (Powers.power_under_powers (dioid k) a i) (rw (k.laws.times_one _) at (Powers.powers_least (dioid k) a i (one_under_star a) (star_kept a)))

  -- star(a) × b lies under every x with a x + b under x.
  pub star_least : {a b x : K} → Under k (k.plus (k.times a x) b) x → Under k (k.times (k.star a) b) x
  star_least {a} {b} {x} h =
      let parts = Order.plus_parts (dioid k) h in
      Powers.finite_least (dioid k) (k.laws.star_finite a) parts.1 parts.0

  pub star_solves : (a b : K) → k.times (k.star a) b ≡ k.plus (k.times a (k.times (k.star a) b)) b
  star_solves a b =
      let s = k.star a in
      ap (λ x. k.times x b) (sym (star_step a)) ∙ Order.plus_times (dioid k) k.one (k.times a s) b ∙ cc (Order.one_times (dioid k) b, k.laws.times_assoc a s b, k.laws.plus_comm b (k.times a (k.times s b)))

  pub star_least_solution : (a b : K) → LeastSolution k a b (k.times (k.star a) b)
  star_least_solution a b = record { solves = star_solves a b; least = λ y h. star_least h }

  -- The least solution of x = a x + one is star(a) itself.
  pub star_least_one : (a : K) → LeastSolution k a k.one (k.star a)
  star_least_one a = subst (LeastSolution k a k.one) (k.laws.times_one (k.star a)) (star_least_solution a k.one)

  pub least_unique : {a b x y : K} → LeastSolution k a b x → LeastSolution k a b y → x ≡ y
  least_unique {a} {b} {x} {y} p q = Order.under_antisym (dioid k) (p.least y (Order.equal_under (dioid k) (sym q.solves))) (q.least x (Order.equal_under (dioid k) (sym p.solves)))

  pub star_square : (a : K) → k.times (k.star a) (k.star a) ≡ k.star a
  star_square a = Order.under_antisym (dioid k) (star_least (Order.plus_least (dioid k) (star_kept a) (k.laws.plus_idem _))) (rw (k.laws.times_one _) at (Order.times_mono_right (dioid k) (k.star a) (one_under_star a)))

  pub star_mono : {a b : K} → Under k a b → Under k (k.star a) (k.star b)
  star_mono {a} {b} h = rw (k.laws.times_one _) at (star_least (Order.plus_least (dioid k) (Order.under_trans (dioid k) (Order.times_mono_left (dioid k) _ h) (star_kept b)) (one_under_star b)))

  -- A finite sum of powers that a further power leaves is the star.
  pub star_unique : {a s : K} → FiniteStar k.one k.plus k.times a s → s ≡ k.star a
  star_unique {a} f = Powers.finite_unique (dioid k) f (k.laws.star_finite a)

  pub star_plus : (a b : K) → k.star (k.plus a b) ≡ k.times (k.star a) (k.star b)
  star_plus a b = sym (star_unique (Powers.finite_plus (dioid k) (k.laws.star_finite a) (k.laws.star_finite b)))

  pub star_zero : k.star k.zero ≡ k.one
  star_zero = sym (star_unique (Powers.finite_one (dioid k) (Order.zero_under (dioid k) k.one)))

  pub star_laws : (a : K) → StarLaws k a
  star_laws a = record {
    least = star_least_one a;
    scaled = star_least_solution a;
    square = star_square a;
    powers = power_under_star a;
    sum = star_plus a;
    order = λ b. star_mono;
  }
