-- The order of a dioid: a lies under b where plus a b ≡ b. It is a partial order with least
-- element zero, a sum is the least upper bound, and sum and product are monotone.
use Rattle.std.proofs.Common.{◌≡◌, sym, ap, ◌∙◌}
use Rattle.semiring.specs.Algebra.{Algebra}
use Rattle.semiring.specs.Order.{OrderLaws}
use Rattle.semiring.proofs.Dioid.{Dioid, dioid}

module _ {K : Type 0} {none unit : K} {plus times : K → K → K} (d : Dioid none unit plus times) where
  pub one_times : (a : K) → times unit a ≡ a
  one_times a = d.times_comm unit a ∙ d.times_one a

  pub zero_times : (a : K) → times none a ≡ none
  zero_times a = d.times_comm none a ∙ d.times_zero a

  pub plus_times : (a b c : K) → times (plus a b) c ≡ plus (times a c) (times b c)
  plus_times a b c = d.times_comm (plus a b) c ∙ d.times_plus c a b ∙ cc (d.times_comm c a, d.times_comm c b)

  -- `simp (sums, d)` proves an identity of sums, `simp (products, d)` one of products.
  pub plus_assoc : (a b c : K) → plus (plus a b) c ≡ plus a (plus b c)
  plus_assoc = d.plus_assoc

  pub plus_comm : (a b : K) → plus a b ≡ plus b a
  plus_comm = d.plus_comm

  pub plus_left : (a b c : K) → plus a (plus b c) ≡ plus b (plus a c)
  plus_left a b c = sym (d.plus_assoc a b c) ∙ ap (λ x. plus x c) (d.plus_comm a b) ∙ d.plus_assoc b a c

  pub times_assoc : (a b c : K) → times (times a b) c ≡ times a (times b c)
  times_assoc = d.times_assoc

  pub times_comm : (a b : K) → times a b ≡ times b a
  times_comm = d.times_comm

  pub times_left : (a b c : K) → times a (times b c) ≡ times b (times a c)
  times_left a b c = sym (d.times_assoc a b c) ∙ ap (λ x. times x c) (d.times_comm a b) ∙ d.times_assoc b a c

  pub ruleset sums = (plus_assoc, plus_comm, plus_left)

  pub ruleset products = (times_assoc, times_comm, times_left)

  -- The order.
  pub under_refl : (a : K) → plus a a ≡ a
  under_refl a = d.plus_idem a

  pub under_trans : {a b c : K} → plus a b ≡ b → plus b c ≡ c → plus a c ≡ c
  under_trans {a} {b} {c} p q = ap (plus a) (sym q) ∙ sym (d.plus_assoc a b c) ∙ ap (λ x. plus x c) p ∙ q

  pub under_antisym : {a b : K} → plus a b ≡ b → plus b a ≡ a → a ≡ b
  under_antisym {a} {b} p q = sym q ∙ d.plus_comm b a ∙ p

  -- Adding what lies under b leaves b.
  pub under_absorbed : {a b : K} → plus a b ≡ b → plus b a ≡ b
  under_absorbed {a} {b} h = d.plus_comm b a ∙ h

  pub equal_under : {a b : K} → a ≡ b → plus a b ≡ b
  equal_under {a} {b} e = ap (λ x. plus x b) e ∙ d.plus_idem b

  -- Also read as: zero + a is a.
  pub zero_under : (a : K) → plus none a ≡ a
  zero_under a = d.plus_comm none a ∙ d.plus_zero a

  -- A sum is the least upper bound.
  pub under_plus_left : (a b : K) → plus a (plus a b) ≡ plus a b
  under_plus_left a b = sym (d.plus_assoc a a b) ∙ ap (λ x. plus x b) (d.plus_idem a)

  pub under_plus_right : (a b : K) → plus b (plus a b) ≡ plus a b
  under_plus_right a b = plus_left b a b ∙ ap (plus a) (d.plus_idem b)

  pub plus_least : {a b c : K} → plus a c ≡ c → plus b c ≡ c → plus (plus a b) c ≡ c
  plus_least {a} {b} {c} p q = d.plus_assoc a b c ∙ ap (plus a) q ∙ p

  -- Both parts of a sum under c lie under c.
  pub plus_parts : {a b c : K} → plus (plus a b) c ≡ c → (plus a c ≡ c) × (plus b c ≡ c)
  plus_parts {a} {b} {c} h = (under_trans (under_plus_left a b) h, under_trans (under_plus_right a b) h)

  -- Sum and product are monotone.
  pub plus_mono : {a b x y : K} → plus a x ≡ x → plus b y ≡ y → plus (plus a b) (plus x y) ≡ plus x y
  plus_mono {a} {b} {x} {y} p q =
      plus_least (under_trans p (under_plus_left x y)) (under_trans q (under_plus_right x y))

  pub times_mono_right : (a : K) {b c : K} → plus b c ≡ c → plus (times a b) (times a c) ≡ times a c
  times_mono_right a {b} {c} h = sym (d.times_plus a b c) ∙ ap (times a) h

  pub times_mono_left : {a b : K} (c : K) → plus a b ≡ b → plus (times a c) (times b c) ≡ times b c
  times_mono_left {a} {b} c h = sym (plus_times a b c) ∙ ap (λ x. times x c) h

  pub times_mono : {a b x y : K} → plus a x ≡ x → plus b y ≡ y → plus (times a b) (times x y) ≡ times x y
  times_mono {a} {b} {x} {y} p q = under_trans (times_mono_left b p) (times_mono_right x q)

-- All of it for a kind.
pub order_laws : {K : Type 0} (k : Algebra K) → OrderLaws k
order_laws k = record {
  reflexive = under_refl (dioid k);
  transitive = λ a b c. under_trans (dioid k);
  antisymmetric = λ a b. under_antisym (dioid k);
  zero_least = zero_under (dioid k);
  sum_above = λ a b. (under_plus_left (dioid k) a b, under_plus_right (dioid k) a b);
  sum_least = λ a b c. plus_least (dioid k);
  product_monotone = λ a b x y. times_mono (dioid k);
}
