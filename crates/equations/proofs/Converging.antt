-- What every start, climb and round keeps, and what it comes to: reached values that solve the
-- equations are the sum over all runs, and n rounds suffice.
use Rattle.std.proofs.Common.{◌≡◌, ℕ, zero, suc, ◌<◌, ◌⊎◌, List, [], ◌∷◌, length, sym, refl, inl, inr, le_of_suc-le-suc, eq-or-lt_of_le, arith}
use mathlib.Core.List.{Memᴰ}
use Rattle.semiring.specs.Algebra.{Algebra, Under}
use Rattle.semiring.proofs.Dioid.{dioid}
use Rattle.semiring.proofs.Order
use Rattle.semiring.proofs.Sums
use Rattle.linear.specs.System.{Least}
use Rattle.linear.proofs.Existence.{least_in}
use Rattle.equations.specs.Rule.{Rule, Within}
use Rattle.equations.specs.Equations.{called, image, slope, Solves}
use Rattle.equations.specs.Run.{Runs, none, more, Run, weight}
use Rattle.equations.specs.Reached.{Image, Reached, start, climb, round}
use Rattle.equations.specs.Convergence.{SumOfRuns, Convergence}
use Rattle.equations.proofs.Over.{over_member}
use Rattle.equations.proofs.Tangent.{LiesUnder, image_mono, tangent}
use Rattle.equations.proofs.FiniteSums.{Finite, single_weight, finite_zero, finite_plus, finite_image, finite_slope}
use Rattle.equations.proofs.Dimension.{Empty, Covers, round_covers}
use Rattle.equations.proofs.Pieces.{size, Inside}
use Rattle.equations.proofs.Compact.{compact}

-- The invariants of reached values.
record Kept {K : Type 0} (k : Algebra K) (n : ℕ) (script : List (Rule K)) (v : ℕ → K) (rounds : ℕ) : Type 0 where
  rising : LiesUnder k n v (image k script v)
  least : (y : ℕ → K) → LiesUnder k n (image k script y) y → LiesUnder k n v y
  finite : (r : ℕ) → r < n → Finite k script (r ∷ []) (v r)
  covers : Covers k n script v rounds

-- The numbers below n.
abbrev below : ℕ → List ℕ
below zero = []
below (suc n) = n ∷ below n

length-below : (n : ℕ) → length (below n) ≡ n
length-below zero = refl
length-below (suc n) = let rec = length-below n in omega arith

below_member : (n q : ℕ) → q < n → Memᴰ q (below n)
below_member zero q l = absurd (omega arith)
below_member (suc n) q l = look (λ m. below_member n q m) (eq-or-lt_of_le (le_of_suc-le-suc l))
  where
    look : (q < n → Memᴰ q (below n)) → (q ≡ n) ⊎ (q < n) → Memᴰ q (below (suc n))
    look before (inl e) = Memᴰ.head e
    look before (inr m) = Memᴰ.tail (before m)

module _ {K : Type 0} (k : Algebra K) (n : ℕ) (script : List (Rule K)) (within : Within n script) where
  zero_below : (y : ℕ → K) → LiesUnder k n (λ r. k.zero) y
  zero_below y r l = Order.zero_under (dioid k) (y r)

  empty_under : (v : ℕ → K) {qs : List ℕ} (runs : Runs script qs) → Empty runs → Under k (weight k runs) (called k v qs)
  empty_under v none empty = Order.under_refl (dioid k) k.one
  empty_under v (more m children rest) empty = absurd empty

  kept_start : (x : ℕ → K) → Image k n script (λ r. k.zero) x → Kept k n script x zero
  kept_start x e = record {
    rising = λ r l. rw (e r l) (image_mono k n (λ q. k.zero) x (zero_below x) script within r);
    least = λ y h r l. rw (e r l) (Order.under_trans (dioid k) (image_mono k n (λ q. k.zero) y (zero_below y) script within r) (h r l));
    finite = λ r l. rw (e r l) (finite_image k script (λ q. k.zero) n within (λ q m. finite_zero k script) r);
    covers = covered;
  }
    where
      covered : Covers k n script x zero
      covered r l (more {w} m children none) (empty, low) =
          rw (single_weight k m children, e r l) (Order.under_trans (dioid k) (Order.times_mono_right (dioid k) w (empty_under (λ q. k.zero) children empty)) (over_member k (called k (λ q. k.zero)) m))

  kept_climb : (v x : ℕ → K) (rounds : ℕ) → Kept k n script v rounds → Image k n script v x → Kept k n script x rounds
  kept_climb v x rounds kept e = record {
    rising = λ r l. rw (e r l) (image_mono k n v x above script within r);
    least = λ y h r l. rw (e r l) (Order.under_trans (dioid k) (image_mono k n v y (kept.least y h) script within r) (h r l));
    finite = λ r l. rw (e r l) (finite_image k script v n within kept.finite r);
    covers = λ r l run low. Order.under_trans (dioid k) (kept.covers r l run low) (above r l);
  }
    where
      above : LiesUnder k n v x
      above r l = rw (e r l) (kept.rising r l)

  kept_round : (v x : ℕ → K) (rounds : ℕ) → Kept k n script v rounds → Least k n (slope k script v) (image k script v) x → Kept k n script x (suc rounds)
  kept_round v x rounds kept solution = record {
    rising = λ r l. rw (solution.solves r l) (tangent k n v x above script within r);
    least = λ y h. solution.least y (λ r l. Order.under_trans (dioid k) (tangent k n v y (kept.least y h) script within r) (h r l));
    finite = least_in k n (slope k script v) (image k script v) (λ r. Finite k script (r ∷ [])) (λ r. finite_zero k script) (λ r a b. finite_plus k script) (λ r q l m a. finite_slope k script v n within kept.finite r q a) (λ r l. finite_image k script v n within kept.finite r) x solution;
    covers = round_covers k n script within v rounds kept.covers x solution;
  }
    where
      above : LiesUnder k n v x
      above r l = rw (solution.solves r l) (Order.under_trans (dioid k) (kept.rising r l) (Order.under_plus_right (dioid k) _ (image k script v r)))

  kept : (v : ℕ → K) (rounds : ℕ) → Reached k n script v rounds → Kept k n script v rounds
  kept v rounds (start {x} e) = kept_start x e
  kept v rounds (climb {v = u} {x} {rounds = i} before e) = kept_climb u x i (kept u i before) e
  kept v rounds (round {v = u} {x} {rounds = i} before solution) = kept_round u x i (kept u i before) solution

  -- Every run lies under values that f keeps under themselves.
  runs_under : (y : ℕ → K) → LiesUnder k n (image k script y) y → {qs : List ℕ} (runs : Runs script qs) → Under k (weight k runs) (called k y qs)
  runs_under y h none = Order.under_refl (dioid k) k.one
  runs_under y h (more {r} {calls} {w} m children rest) =
      let here = Order.under_trans (dioid k) (Order.times_mono_right (dioid k) w (runs_under y h children)) (Order.under_trans (dioid k) (over_member k (called k y) m) (h r (within (record { routine = r; calls = calls; weight = w }) m).0)) in
      rw (← k.laws.times_assoc w (weight k children) (weight k rest)) (Order.times_mono (dioid k) here (runs_under y h rest))

  exact : (v : ℕ → K) (rounds : ℕ) → Reached k n script v rounds → Solves k n script v → SumOfRuns k n script v
  exact v rounds reached solves = record {
    finite = (kept v rounds reached).finite;
    complete = λ r l run. Order.under_absorbed (dioid k) (rw (k.laws.times_one (v r)) at (runs_under v (λ q m. Order.equal_under (dioid k) (sym (solves q m))) run));
    solves = solves;
    least = λ y h. (kept v rounds reached).least y (λ r l. Order.equal_under (dioid k) (sym (h r l)));
  }

  inside_below : {qs : List ℕ} (runs : Runs script qs) → Inside (below n) runs
  inside_below none = tt
  inside_below (more {r} {calls} {w} m children rest) = (below_member n r (within (record { routine = r; calls = calls; weight = w }) m).0, inside_below children, inside_below rest)

  -- Values that cover dimension n lie above every run.
  covers_all : (v : ℕ → K) → Covers k n script v n → (r : ℕ) → r < n → (run : Run script r) → Under k (weight k run) (v r)
  covers_all v covers r l run =
      let low = compact k script (suc (size run)) n (below n) (omega (arith, length-below n)) r run (omega arith) (inside_below run) in
      rw (← low.1) (covers r l low.0 low.2)

  enough : (v : ℕ → K) → Reached k n script v n → Solves k n script v
  enough v reached r l =
      let all = kept v n reached in
      let sum = finite_image k script v n within all.finite r in
      Order.under_antisym (dioid k) (all.rising r l) (rw sum.1 (Sums.total_map_least k (weight k) sum.0 (λ run m. covers_all v all.covers r l run)))

pub convergence : {K : Type 0} (k : Algebra K) → Convergence k
convergence k = record {
  exact = λ n script within. exact k n script within;
  enough = λ n script within. enough k n script within;
}
