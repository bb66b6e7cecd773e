-- Finite sums of powers in a dioid, and the star as the one that a further power leaves. A kind
-- shows its star by these lemmas; the engines' lemmas on the star rest on them too.
use Rattle.std.proofs.Common.{◌≡◌, ℕ, zero, suc, ◌+◌, ◌≤◌, sym, refl, ap, ◌∙◌, suc-add, zero-add, arith}
use Rattle.semiring.specs.Algebra.{power, powers}
use Rattle.semiring.proofs.Dioid.{Dioid, FiniteStar}
use Rattle.semiring.proofs.Order

module _ {K : Type 0} {none unit : K} {plus times : K → K → K} (d : Dioid none unit plus times) where
  -- a^0 + .. + a^(n+1) is one + a × (a^0 + .. + a^n).
  pub powers_step : (a : K) (n : ℕ) → powers unit plus times a (suc n) ≡ plus unit (times a (powers unit plus times a n))
  powers_step a zero = refl
  powers_step a (suc n) =
      ap (λ x. plus x (power unit times a (suc (suc n)))) (powers_step a n) ∙ d.plus_assoc unit (times a (powers unit plus times a n)) (power unit times a (suc (suc n))) ∙ ap (plus unit) (sym (d.times_plus a (powers unit plus times a n) (power unit times a (suc n))))

  pub one_under_powers : (a : K) (n : ℕ) → plus unit (powers unit plus times a n) ≡ powers unit plus times a n
  one_under_powers a zero = d.plus_idem unit
  one_under_powers a (suc n) = Order.under_trans d (one_under_powers a n) (Order.under_plus_left d (powers unit plus times a n) (power unit times a (suc n)))

  -- More powers lie above fewer.
  pub powers_more : (a : K) (m n : ℕ) → m ≤ n → plus (powers unit plus times a m) (powers unit plus times a n) ≡ powers unit plus times a n
  powers_more a zero n h = one_under_powers a n
  powers_more a (suc m) zero h = absurd (omega arith)
  powers_more a (suc m) (suc n) h =
      rw (powers_step a m, powers_step a n) (Order.plus_mono d (d.plus_idem unit) (Order.times_mono_right d a (powers_more a m n (omega arith))))

  pub power_under_powers : (a : K) (n : ℕ) → plus (power unit times a n) (powers unit plus times a n) ≡ powers unit plus times a n
  power_under_powers a zero = d.plus_idem unit
  power_under_powers a (suc n) = Order.under_plus_right d (powers unit plus times a n) (power unit times a (suc n))

  pub powers_mono : {a b : K} (n : ℕ) → plus a b ≡ b → plus (powers unit plus times a n) (powers unit plus times b n) ≡ powers unit plus times b n
  powers_mono zero h = d.plus_idem unit
  powers_mono {a} {b} (suc n) h =
      rw (powers_step a n, powers_step b n) (Order.plus_mono d (d.plus_idem unit) (Order.times_mono d h (powers_mono n h)))

  -- (a^0 + .. + a^n) × b lies under every x that b lies under and that a keeps under itself.
  pub powers_least : (a : K) (n : ℕ) {b x : K} → plus b x ≡ x → plus (times a x) x ≡ x → plus (times (powers unit plus times a n) b) x ≡ x
  powers_least a zero {b} {x} above kept = rw (Order.one_times d b) above
  powers_least a (suc n) {b} {x} above kept =
      rw (powers_step a n, Order.plus_times d unit (times a (powers unit plus times a n)) b, Order.one_times d b, d.times_assoc a (powers unit plus times a n) b) (Order.plus_least d above (Order.under_trans d (Order.times_mono_right d a (powers_least a n above kept)) kept))

  -- a times a sum of powers lies under the sum that has one power more.
  pub powers_kept : (a : K) (n : ℕ) → plus (times a (powers unit plus times a n)) (powers unit plus times a (suc n)) ≡ powers unit plus times a (suc n)
  powers_kept a n = rw (powers_step a n) (Order.under_plus_right d unit (times a (powers unit plus times a n)))

  pub powers_times : (a : K) (m n : ℕ) → plus (times (powers unit plus times a m) (powers unit plus times a n)) (powers unit plus times a (m + n)) ≡ powers unit plus times a (m + n)
  powers_times a zero n = rw (Order.one_times d (powers unit plus times a n), zero-add n) (d.plus_idem (powers unit plus times a n))
  powers_times a (suc m) n =
      let more = powers_more a n (suc (m + n)) (omega arith) in
      let kept = Order.under_trans d (Order.times_mono_right d a (powers_times a m n)) (powers_kept a (m + n)) in
      rw (suc-add m n, powers_step a m, Order.plus_times d unit (times a (powers unit plus times a m)) (powers unit plus times a n), Order.one_times d (powers unit plus times a n), d.times_assoc a (powers unit plus times a m) (powers unit plus times a n)) (Order.plus_least d more kept)

  -- How a kind finds a star. A power that lies under the sum of those before it ends the sum.
  pub powers_end : (a : K) (n : ℕ) → plus (power unit times a (suc n)) (powers unit plus times a n) ≡ powers unit plus times a n → powers unit plus times a (suc n) ≡ powers unit plus times a n
  powers_end a n h = Order.under_absorbed d h

  -- A sum of powers that lies above one and that a keeps under itself is the star of a.
  pub finite_reached : {a s : K} (n : ℕ) → s ≡ powers unit plus times a n → plus unit s ≡ s → plus (times a s) s ≡ s → FiniteStar unit plus times a s
  finite_reached {a} {s} n e above kept =
      (n, e, powers_step a n ∙ (rw (← e) (Order.under_antisym d (Order.plus_least d above kept) (rw (e, ← powers_step a n) (powers_more a n (suc n) (omega arith))))))

  -- The star of what lies under one is one; so is that of zero.
  pub finite_one : {a : K} → plus a unit ≡ unit → FiniteStar unit plus times a unit
  finite_one {a} h = (zero, refl, d.plus_comm unit (times a unit) ∙ ap (λ x. plus x unit) (d.times_one a) ∙ h)

  -- What a star is: the least x above one that a keeps under itself.
  pub finite_step : {a s : K} → FiniteStar unit plus times a s → plus unit (times a s) ≡ s
  finite_step {a} {s} f = ap (λ x. plus unit (times a x)) f.1 ∙ sym (powers_step a f.0) ∙ f.2 ∙ sym f.1

  pub finite_least : {a s b x : K} → FiniteStar unit plus times a s → plus b x ≡ x → plus (times a x) x ≡ x → plus (times s b) x ≡ x
  finite_least {a} {s} {b} {x} f above kept = rw f.1 (powers_least a f.0 above kept)

  pub finite_above : {a s : K} → FiniteStar unit plus times a s → plus unit s ≡ s
  finite_above f = (Order.plus_parts d (Order.equal_under d (finite_step f))).0

  pub finite_kept : {a s : K} → FiniteStar unit plus times a s → plus (times a s) s ≡ s
  finite_kept f = (Order.plus_parts d (Order.equal_under d (finite_step f))).1

  pub finite_unique : {a s t : K} → FiniteStar unit plus times a s → FiniteStar unit plus times a t → s ≡ t
  finite_unique {a} {s} {t} f g = Order.under_antisym d (under f g) (under g f)
    where
      under : {x y : K} → FiniteStar unit plus times a x → FiniteStar unit plus times a y → plus x y ≡ y
      under {x} {y} u v = rw (d.times_one x) at (finite_least u (finite_above v) (finite_kept v))

  -- The star of a sum is the product of the stars.
  pub finite_plus : {a b s t : K} → FiniteStar unit plus times a s → FiniteStar unit plus times b t → FiniteStar unit plus times (plus a b) (times s t)
  finite_plus {a} {b} {s} {t} f g =
      finite_reached (f.0 + g.0) (Order.under_antisym d below (rw (d.times_one (powers unit plus times (plus a b) (f.0 + g.0))) at (powers_least (plus a b) (f.0 + g.0) above kept))) above kept
    where
      above : plus unit (times s t) ≡ times s t
      above = rw (d.times_one unit) at (Order.times_mono d (finite_above f) (finite_above g))

      kept : plus (times (plus a b) (times s t)) (times s t) ≡ times s t
      kept =
          rw (Order.plus_times d a b (times s t), ← d.times_assoc a s t, Order.times_left d b s t) (Order.plus_least d (Order.times_mono_left d t (finite_kept f)) (Order.times_mono_right d s (finite_kept g)))

      below : plus (times s t) (powers unit plus times (plus a b) (f.0 + g.0)) ≡ powers unit plus times (plus a b) (f.0 + g.0)
      below =
          rw (f.1, g.1) (Order.under_trans d (Order.times_mono d (powers_mono f.0 (Order.under_plus_left d a b)) (powers_mono g.0 (Order.under_plus_right d a b))) (powers_times (plus a b) f.0 g.0))
