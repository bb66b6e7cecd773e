-- Sums over the rules of a routine are least upper bounds, and a factor goes in.
use Rattle.std.proofs.Common.{◌≡◌, ℕ, Bool, true, false, cond, eqb, List, [], ◌∷◌, sym, refl, ap, ◌∙◌, subst, ap₂}
use mathlib.Core.List.{Memᴰ}
use Rattle.std.proofs.lemmas.Bool.{eqb-true, eq-eqb, cond_both, cond-true}
use Rattle.semiring.specs.Algebra.{Algebra, Under}
use Rattle.semiring.proofs.Dioid.{dioid}
use Rattle.semiring.proofs.Order
use Rattle.equations.specs.Rule.{Rule}
use Rattle.equations.specs.Equations.{over}

module _ {K : Type 0} (k : Algebra K) (g : List ℕ → K) where
  pub over_least : (script : List (Rule K)) (r : ℕ) {c : K} → ((rule : Rule K) → Memᴰ rule script → rule.routine ≡ r → Under k (k.times rule.weight (g rule.calls)) c) → Under k (over k script g r) c
  over_least [] r {c} h = Order.zero_under (dioid k) c
  over_least (rule ∷ rules) r {c} h =
      Order.plus_least (dioid k) (cond_both (eqb rule.routine r) _ _ (λ x. Under k x c) (λ e. h rule (Memᴰ.head refl) (eqb-true _ _ e)) (λ e. Order.zero_under (dioid k) c)) (over_least rules r (λ rule' m. h rule' (Memᴰ.tail m)))

  pub over_member : {rule : Rule K} {script : List (Rule K)} → Memᴰ rule script → Under k (k.times rule.weight (g rule.calls)) (over k script g rule.routine)
  over_member {rule} (Memᴰ.head {x = rule'} {xs = rules} e) =
      Order.under_trans (dioid k) (Order.equal_under (dioid k) (ap (λ (u : Rule K). k.times u.weight (g u.calls)) e ∙ sym (cond-true _ _ _ (eq-eqb rule'.routine rule.routine (sym (ap (λ (u : Rule K). u.routine) e)))))) (Order.under_plus_left (dioid k) _ (over k rules g rule.routine))
  over_member {rule} (Memᴰ.tail {x = rule'} {xs = rules} m) =
      Order.under_trans (dioid k) (over_member m) (Order.under_plus_right (dioid k) _ (over k rules g rule.routine))

  pub over_times : (a : K) (script : List (Rule K)) (r : ℕ) → k.times (over k script g r) a ≡ over k script (λ calls. k.times (g calls) a) r
  over_times a [] r = Order.zero_times (dioid k) a
  over_times a (rule ∷ rules) r =
      Order.plus_times (dioid k) _ (over k rules g r) a ∙ ap₂ k.plus (each (eqb rule.routine r)) (over_times a rules r)
    where
      each : (b : Bool) → k.times (cond b (k.times rule.weight (g rule.calls)) k.zero) a ≡ cond b (k.times rule.weight (k.times (g rule.calls) a)) k.zero
      each true = k.laws.times_assoc rule.weight (g rule.calls) a
      each false = Order.zero_times (dioid k) a

-- A greater g has a greater sum.
pub over_mono : {K : Type 0} (k : Algebra K) (g h : List ℕ → K) (script : List (Rule K)) → ((rule : Rule K) → Memᴰ rule script → Under k (g rule.calls) (h rule.calls)) → (r : ℕ) → Under k (over k script g r) (over k script h r)
over_mono k g h script below r =
    over_least k g script r (λ rule m e. Order.under_trans (dioid k) (Order.times_mono_right (dioid k) rule.weight (below rule m)) (subst (λ q. Under k (k.times rule.weight (h rule.calls)) (over k script h q)) e (over_member k h m)))
