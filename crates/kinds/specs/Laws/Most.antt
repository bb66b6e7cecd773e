-- Most seconds keep the laws of a kind. The star of a seconds, a over 0, is reached with 65,535
-- powers: a^0 + .. + a^k is k times a seconds, held at 65,535.
use Rattle.std.specs.Prelude.{◌≡◌, ℕ, zero as none, suc, ◌*◌, ◌≤◌, Bool, true, false, cond, nat_lt, refl}
use Rattle.std.proofs.Common.{sym, ap, ap₂, ◌∙◌, mul-le-mul_left, suc-mul, arith, ltb-true, ltb-false}
use Rattle.semiring.specs.Algebra.{Algebra, Laws, power, powers}
use Rattle.kinds.specs.declared.weights.Bounded.{Bounded}
use Rattle.kinds.specs.declared.weights.Most.{Most}
use Rattle.kinds.specs.declared.weights.Most.TheVariants.{Seconds, Never}
use Rattle.kinds.specs.Most.{seconds, zero, one, plus, times, star}
use Rattle.kinds.specs.Laws.Alike.{alike}

same : (a b : Bounded 65535) → a.value ≡ b.value → Seconds a ≡ Seconds b
same a b e = ap Seconds (alike a b e)

plus_assoc : (a b c : Most) → plus (plus a b) c ≡ plus a (plus b c)
plus_assoc Never b c = refl
plus_assoc (Seconds a) Never c = refl
plus_assoc (Seconds a) (Seconds b) Never = refl
plus_assoc (Seconds a) (Seconds b) (Seconds c) = same _ _ (omega arith)

plus_comm : (a b : Most) → plus a b ≡ plus b a
plus_comm Never Never = refl
plus_comm Never (Seconds b) = refl
plus_comm (Seconds a) Never = refl
plus_comm (Seconds a) (Seconds b) = same _ _ (omega arith)

plus_idem : (a : Most) → plus a a ≡ a
plus_idem Never = refl
plus_idem (Seconds a) = same _ _ (omega arith)

plus_zero : (a : Most) → plus a zero ≡ a
plus_zero Never = refl
plus_zero (Seconds a) = refl

times_assoc : (a b c : Most) → times (times a b) c ≡ times a (times b c)
times_assoc Never b c = refl
times_assoc (Seconds a) Never c = refl
times_assoc (Seconds a) (Seconds b) Never = refl
times_assoc (Seconds a) (Seconds b) (Seconds c) = same _ _ (omega arith)

times_comm : (a b : Most) → times a b ≡ times b a
times_comm Never Never = refl
times_comm Never (Seconds b) = refl
times_comm (Seconds a) Never = refl
times_comm (Seconds a) (Seconds b) = same _ _ (omega arith)

times_one : (a : Most) → times a one ≡ a
times_one Never = refl
times_one (Seconds a) = same _ _ (omega (arith, a.ok))

times_zero : (a : Most) → times a zero ≡ zero
times_zero Never = refl
times_zero (Seconds a) = refl

times_plus : (a b c : Most) → times a (plus b c) ≡ plus (times a b) (times a c)
times_plus Never b c = refl
times_plus (Seconds a) Never c = refl
times_plus (Seconds a) (Seconds b) Never = refl
times_plus (Seconds a) (Seconds b) (Seconds c) = same _ _ (omega arith)

power_is : (a : Bounded 65535) (k : ℕ) → power one times (Seconds a) k ≡ seconds (k * a.value)
power_is a none = same _ _ (omega arith)
power_is a (suc k) = ap (times (Seconds a)) (power_is a k) ∙ same _ _ (omega (arith, suc-mul k a.value))

powers_are : (a : Bounded 65535) (k : ℕ) → powers one plus times (Seconds a) k ≡ seconds (k * a.value)
powers_are a none = same _ _ (omega arith)
powers_are a (suc k) = ap₂ plus (powers_are a k) (power_is a (suc k)) ∙ same _ _ (omega (arith, suc-mul k a.value))

-- a number of powers that is kept shut, since 65,535 of them are not to be computed
enough : (k : ℕ) × (65535 ≤ k)
enough = (65535, omega arith)

star_finite : (a : Most) → (k : ℕ) × (star a ≡ powers one plus times a k) × (powers one plus times a (suc k) ≡ powers one plus times a k)
star_finite Never = (0, refl, refl)
star_finite (Seconds a) = go (nat_lt 0 a.value) refl
  where
    go : (t : Bool) → nat_lt 0 a.value ≡ t → (k : ℕ) × (cond t (seconds 65535) one ≡ powers one plus times (Seconds a) k) × (powers one plus times (Seconds a) (suc k) ≡ powers one plus times (Seconds a) k)
    go true e =
        let k : ℕ = enough.0 in
        let many : 65535 ≤ k * a.value = omega (arith, enough.1, mul-le-mul_left k (ltb-true 0 a.value e)) in
        (k, same _ _ (omega arith) ∙ sym (powers_are a k), powers_are a (suc k) ∙ same _ _ (omega (arith, suc-mul k a.value)) ∙ sym (powers_are a k))
    go false e = (0, refl, same _ _ (omega (arith, ltb-false 0 a.value e)))

pub most_laws : Laws zero one plus times star
most_laws = record {
  plus_assoc = plus_assoc;
  plus_comm = plus_comm;
  plus_idem = plus_idem;
  plus_zero = plus_zero;
  times_assoc = times_assoc;
  times_comm = times_comm;
  times_one = times_one;
  times_zero = times_zero;
  times_plus = times_plus;
  star_finite = star_finite;
}

abbrev pub most_algebra : Algebra Most
most_algebra = record { zero = zero; one = one; plus = plus; times = times; star = star; laws = most_laws }
