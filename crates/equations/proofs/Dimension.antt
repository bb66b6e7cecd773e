-- The dimension of a run. A run without calls has dimension 0; a run has dimension at most i + 1
-- where the runs that it calls have dimension at most i, but for at most one, and that one at most
-- i + 1. A round raises by one the dimension up to which all runs lie under the values.
use Rattle.std.proofs.Common.{ℕ, zero, suc, ◌<◌, eqb, ◌⊎◌, List, ◌∷◌, sym, refl, inl, inr}
use mathlib.Core.List.{Memᴰ}
use Rattle.std.proofs.lemmas.Bool.{eq-eqb, cond-true}
use Rattle.semiring.specs.Algebra.{Algebra, Under}
use Rattle.semiring.proofs.Dioid.{dioid}
use Rattle.semiring.proofs.Order
use Rattle.semiring.proofs.Sums
use Rattle.linear.specs.System.{Least}
use Rattle.equations.specs.Rule.{Rule, Within}
use Rattle.equations.specs.Equations.{called, others, image, slope}
use Rattle.equations.specs.Run.{Runs, none, more, Run, weight}
use Rattle.equations.proofs.Over.{over_member}
use Rattle.equations.proofs.FiniteSums.{single_weight}

-- There is no run.
abbrev pub Empty : {K : Type 0} {script : List (Rule K)} {qs : List ℕ} → Runs script qs → Type 0
Empty none = Unit {0}
Empty (more m children rest) = ⊥

-- The dimension of a run, given what its children satisfy.
abbrev pub dimension : Type 0 → (ℕ → Type 0) → ℕ → Type 0
dimension empty spine zero = empty
dimension empty spine (suc i) = spine i

abbrev mutual
  -- Each of the runs has dimension at most i.
  pub Low : {K : Type 0} {script : List (Rule K)} {qs : List ℕ} → Runs script qs → ℕ → Type 0
  Low none i = Unit {0}
  Low (more m children rest) i = dimension (Empty children) (Spine children) i × Low rest i

  -- Each of the runs has dimension at most i, but for at most one, and that one at most i + 1.
  pub Spine : {K : Type 0} {script : List (Rule K)} {qs : List ℕ} → Runs script qs → ℕ → Type 0
  Spine none i = Unit {0}
  Spine (more m children rest) i = (dimension (Empty children) (Spine children) i × Spine rest i) ⊎ (Spine children i × Low rest i)

pub low_spine : {K : Type 0} {script : List (Rule K)} {qs : List ℕ} (runs : Runs script qs) (i : ℕ) → Low runs i → Spine runs i
low_spine none i low = tt
low_spine (more m children rest) i low = inl (low.0, low_spine rest i low.1)

-- All runs of dimension at most i lie under v.
abbrev pub Covers : {K : Type 0} → Algebra K → ℕ → List (Rule K) → (ℕ → K) → ℕ → Type 0
Covers k n script v i = (r : ℕ) → r < n → (run : Run script r) → Low run i → Under k (weight k run) (v r)

module _ {K : Type 0} (k : Algebra K) (n : ℕ) (script : List (Rule K)) (within : Within n script) (v : ℕ → K) (i : ℕ) (covers : Covers k n script v i) where
  head_under : {r : ℕ} {calls : List ℕ} {w : K} (m : Memᴰ (record { routine = r; calls = calls; weight = w }) script) (children : Runs script calls) → dimension (Empty children) (Spine children) i → Under k (k.times w (weight k children)) (v r)
  head_under {r} {w} m children low = rw (single_weight k m children) at (covers r (within (record { routine = r; calls = _; weight = w }) m).0 (more m children none) (low, tt))

  pub low_under : {qs : List ℕ} (runs : Runs script qs) → Low runs i → Under k (weight k runs) (called k v qs)
  low_under none low = Order.under_refl (dioid k) k.one
  low_under (more {w} m children rest) low =
      rw (← k.laws.times_assoc w (weight k children) (weight k rest)) (Order.times_mono (dioid k) (head_under m children low.0) (low_under rest low.1))

  module _ (x : ℕ → K) (solution : Least k n (slope k script v) (image k script v) x) where
    -- Runs under the values at v, or under the slope of their calls in one place, times x there.
    UnderLine : List ℕ → K → Type 0
    UnderLine qs a = Under k a (called k v qs) ⊎ ((q : ℕ) × (q < n) × Under k a (k.times (others k v q qs) (x q)))

    heavy : {r : ℕ} {calls : List ℕ} {w : K} → Memᴰ (record { routine = r; calls = calls; weight = w }) script → (a : K) → UnderLine calls a → Under k (k.times w a) (x r)
    unfolding UnderLine
    heavy {r} {calls} {w} m a (inl p) =
        rw (solution.solves r (within (record { routine = r; calls = calls; weight = w }) m).0) (Order.under_trans (dioid k) (Order.times_mono_right (dioid k) w p) (Order.under_trans (dioid k) (over_member k (called k v) m) (Order.under_plus_right (dioid k) _ (image k script v r))))
    heavy {r} {calls} {w} m a (inr (q, l, p)) =
        let line = λ (j : ℕ). k.times (slope k script v r j) (x j) in
        let here = Order.times_mono_left (dioid k) (x q) (over_member k (others k v q) m) in
        rw (solution.solves r (within (record { routine = r; calls = calls; weight = w }) m).0) (Order.under_trans (dioid k) (Order.times_mono_right (dioid k) w p) (rw (← k.laws.times_assoc w (others k v q calls) (x q)) (Order.under_trans (dioid k) here (Order.under_trans (dioid k) (Sums.sum_to_member k line n q l) (Order.under_plus_left (dioid k) _ (image k script v r))))))

    -- A run under v in front of others, and a heavy run in front of runs under v.
    light_first : (r : ℕ) (qs : List ℕ) (a b : K) → Under k a (v r) → UnderLine qs b → UnderLine (r ∷ qs) (k.times a b)
    unfolding UnderLine
    light_first r qs a b h (inl p) = inl (Order.times_mono (dioid k) h p)
    light_first r qs a b h (inr (q, l, p)) =
        inr (q, l, Order.under_trans (dioid k) (Order.times_mono (dioid k) h p) (rw (← k.laws.times_assoc (v r) (others k v q qs) (x q)) (Order.times_mono_left (dioid k) (x q) (Order.under_plus_right (dioid k) _ (k.times (v r) (others k v q qs))))))

    heavy_first : (r : ℕ) → r < n → (qs : List ℕ) (a b : K) → Under k a (x r) → Under k b (called k v qs) → UnderLine (r ∷ qs) (k.times a b)
    unfolding UnderLine
    heavy_first r l qs a b h p =
        let part = Order.under_trans (dioid k) (Order.equal_under (dioid k) (sym (cond-true (eqb r r) (called k v qs) k.zero (eq-eqb r r refl)))) (Order.under_plus_left (dioid k) _ (k.times (v r) (others k v r qs))) in
        inr (r, l, Order.under_trans (dioid k) (Order.times_mono (dioid k) h p) (rw (k.laws.times_comm (x r) (called k v qs)) (Order.times_mono_left (dioid k) (x r) part)))

    spine_under : {qs : List ℕ} (runs : Runs script qs) → Spine runs i → UnderLine qs (weight k runs)
    unfolding UnderLine
    spine_under none spine = inl (Order.under_refl (dioid k) k.one)
    spine_under (more {r} {calls} {w} {rest = qs} m children rest) (inl (low, spine)) =
        rw (← k.laws.times_assoc w (weight k children) (weight k rest)) (light_first r qs (k.times w (weight k children)) (weight k rest) (head_under m children low) (spine_under rest spine))
    spine_under (more {r} {calls} {w} {rest = qs} m children rest) (inr (spine, low)) =
        rw (← k.laws.times_assoc w (weight k children) (weight k rest)) (heavy_first r (within (record { routine = r; calls = calls; weight = w }) m).0 qs (k.times w (weight k children)) (weight k rest) (heavy m (weight k children) (spine_under children spine)) (low_under rest low))

    pub round_covers : Covers k n script x (suc i)
    round_covers r l (more m children none) (spine, low) = rw (single_weight k m children) (heavy m (weight k children) (spine_under children spine))
