-- Of two weights the smaller and the larger in the derived orders are the formulas' sums and products.
use Rattle.std.proofs.Common.{◌≡◌, ℕ, Bool, true, false, cond, ap, refl, arith}
use Rattle.std.proofs.lemmas.Bool.{cond_both}
use Rattle.std.proofs.lemmas.Bool.Decides.{nat_tests}
use Rattle.std.specs.Ordering.{is_lt, nat_cmp, ord_min, ord_max}
use Rattle.kinds.specs.declared.weights.Bounded.{Bounded}
use Rattle.kinds.specs.declared.weights.Least.{Least}
use Rattle.kinds.specs.declared.weights.Least.TheVariants as least
use Rattle.kinds.specs.declared.weights.Light.{Light}
use Rattle.kinds.specs.declared.weights.Most.{Most}
use Rattle.kinds.specs.declared.weights.Most.TheVariants as most
use Rattle.kinds.specs.Bounded.{smaller, larger}
use Rattle.kinds.specs.Least as Least
use Rattle.kinds.specs.Light as Light
use Rattle.kinds.specs.Most as Most
use Rattle.kinds.specs.Laws.Alike.{alike}
use Rattle.kinds.specs.contracts.weights.LeastOrd.TheImpl as least_order
use Rattle.kinds.specs.contracts.weights.LightOrd.TheImpl as light_order
use Rattle.kinds.specs.contracts.weights.MostOrd.TheImpl as most_order

-- a choice of two weights is the weight whose number it has
picked : {top : ℕ} {X : Type 0} (weight : Bounded top → X) (t : Bool) (x y z : Bounded top) → (t ≡ true → x.value ≡ z.value) → (t ≡ false → y.value ≡ z.value)
    → cond t (weight x) (weight y) ≡ weight z
picked weight t x y z then other =
    cond_both t (weight x) (weight y) (λ w. w ≡ weight z) (λ e. ap weight (alike x z (then e))) (λ e. ap weight (alike y z (other e)))

module _ {top : ℕ} {X : Type 0} (weight : Bounded top → X) (a b : Bounded top) where
  lesser : cond (is_lt (nat_cmp b.value a.value)) (weight b) (weight a) ≡ weight (smaller a b)
  lesser = picked weight _ b a (smaller a b) (λ e. grind (arith, nat_tests, e)) (λ e. grind (arith, nat_tests, e))

  greater : cond (is_lt (nat_cmp b.value a.value)) (weight a) (weight b) ≡ weight (larger a b)
  greater = picked weight _ a b (larger a b) (λ e. grind (arith, nat_tests, e)) (λ e. grind (arith, nat_tests, e))

pub bounded_min : {top : ℕ} (a b : Bounded top) → cond (is_lt (nat_cmp b.value a.value)) b a ≡ smaller a b
bounded_min a b = lesser (λ n. n) a b

pub bounded_max : {top : ℕ} (a b : Bounded top) → cond (is_lt (nat_cmp b.value a.value)) a b ≡ larger a b
bounded_max a b = greater (λ n. n) a b

pub least_min : (a b : Least) → ord_min (least_order.ghosts).cmp a b ≡ Least.plus a b
least_min least.Never least.Never = refl
least_min least.Never (least.Seconds b) = refl
least_min (least.Seconds a) least.Never = refl
least_min (least.Seconds a) (least.Seconds b) = lesser least.Seconds a b

pub most_max : (a b : Most) → ord_max (most_order.ghosts).cmp a b ≡ Most.plus a b
most_max most.Never most.Never = refl
most_max most.Never (most.Seconds b) = refl
most_max (most.Seconds a) most.Never = refl
most_max (most.Seconds a) (most.Seconds b) = greater most.Seconds a b

pub light_min : (a b : Light) → ord_min (light_order.ghosts).cmp a b ≡ Light.times a b
light_min a b = lesser (λ n. record { level = n }) a.level b.level

pub light_max : (a b : Light) → ord_max (light_order.ghosts).cmp a b ≡ Light.plus a b
light_max a b = greater (λ n. record { level = n }) a.level b.level
