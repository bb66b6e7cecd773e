-- f is monotone, and lies above its tangent: for v under y, A y + f(v) lies under f(y), where A is
-- the slopes at v.
use Rattle.std.proofs.Common.{ℕ, ◌<◌, cond, eqb, List, [], ◌∷◌, refl}
use mathlib.Core.List.{Memᴰ}
use Rattle.std.proofs.lemmas.Bool.{eqb-true, cond_both}
use Rattle.semiring.specs.Algebra.{Algebra, Under}
use Rattle.semiring.proofs.Dioid.{dioid}
use Rattle.semiring.proofs.Order
use Rattle.semiring.proofs.Sums
use Rattle.linear.specs.System.{right_side}
use Rattle.equations.specs.Rule.{Rule, Within}
use Rattle.equations.specs.Equations.{called, others, image, slope}
use Rattle.equations.proofs.Over.{over_mono, over_times}

-- v lies under y at every routine below n.
abbrev pub LiesUnder : {K : Type 0} → Algebra K → ℕ → (ℕ → K) → (ℕ → K) → Type 0
LiesUnder k n v y = (r : ℕ) → r < n → Under k (v r) (y r)

module _ {K : Type 0} (k : Algebra K) (n : ℕ) (v y : ℕ → K) (below : LiesUnder k n v y) where
  pub called_mono : (calls : List ℕ) → ((q : ℕ) → Memᴰ q calls → q < n) → Under k (called k v calls) (called k y calls)
  called_mono calls within = Sums.product_map_mono k v y calls (λ q m. below q (within q m))

  pub others_under : (q : ℕ) (calls : List ℕ) → ((c : ℕ) → Memᴰ c calls → c < n) → Under k (k.times (others k v q calls) (y q)) (called k y calls)
  others_under q [] within = rw (Order.zero_times (dioid k) (y q)) (Order.zero_under (dioid k) k.one)
  others_under q (c ∷ calls) within =
      rw (Order.plus_times (dioid k) (cond (eqb c q) (called k v calls) k.zero) (k.times (v c) (others k v q calls)) (y q)) (Order.plus_least (dioid k) here (there (others_under q calls later)))
    where
      later : (d : ℕ) → Memᴰ d calls → d < n
      later d m = within d (Memᴰ.tail m)

      here : Under k (k.times (cond (eqb c q) (called k v calls) k.zero) (y q)) (k.times (y c) (called k y calls))
      here =
          cond_both (eqb c q) (called k v calls) k.zero (λ x. Under k (k.times x (y q)) (k.times (y c) (called k y calls))) (λ e. rw (k.laws.times_comm (called k v calls) (y q), ← eqb-true c q e) (Order.times_mono_right (dioid k) (y c) (called_mono calls later))) (λ e. rw (Order.zero_times (dioid k) (y q)) (Order.zero_under (dioid k) (k.times (y c) (called k y calls))))

      there : Under k (k.times (others k v q calls) (y q)) (called k y calls) → Under k (k.times (k.times (v c) (others k v q calls)) (y q)) (k.times (y c) (called k y calls))
      there rec =
          rw (k.laws.times_assoc (v c) (others k v q calls) (y q)) (Order.times_mono (dioid k) (below c (within c (Memᴰ.head refl))) rec)

  module _ (script : List (Rule K)) (within : Within n script) where
    pub image_mono : (r : ℕ) → Under k (image k script v r) (image k script y r)
    image_mono = over_mono k (called k v) (called k y) script (λ rule m. called_mono rule.calls (within rule m).1)

    pub slope_under : (r q : ℕ) → Under k (k.times (slope k script v r q) (y q)) (image k script y r)
    slope_under r q =
        rw (over_times k (others k v q) (y q) script r) (over_mono k (λ calls. k.times (others k v q calls) (y q)) (called k y) script (λ rule m. others_under q rule.calls (within rule m).1) r)

    pub tangent : (r : ℕ) → Under k (right_side k n (slope k script v) (image k script v) y r) (image k script y r)
    tangent r = Order.plus_least (dioid k) (Sums.sum_to_least k (λ q. k.times (slope k script v r q) (y q)) n (λ q l. slope_under r q)) (image_mono r)
