-- Least seconds keep the laws of a kind. Read never as 65,535: then the sum is the smaller number,
-- and the product the sum of the numbers, held at 65,535.
use Rattle.std.specs.Prelude.{◌≡◌, ℕ, ◌+◌, ◌≤◌, min, Bool, true, false, cond, nat_lt, refl}
use Rattle.std.proofs.Common.{ap, arith, ltb-true, ltb-false}
use Rattle.semiring.specs.Algebra.{Algebra, Laws}
use Rattle.kinds.specs.declared.weights.Least.{Least}
use Rattle.kinds.specs.declared.weights.Least.TheVariants.{Seconds, Never}
use Rattle.kinds.specs.Bounded.{held}
use Rattle.kinds.specs.Least.{seconds, zero, one, plus, times, star}
use Rattle.kinds.specs.Laws.Alike.{alike}

abbrev number : Least → ℕ
number (Seconds a) = a.value
number Never = 65535

number_le : (a : Least) → number a ≤ 65535
number_le (Seconds a) = omega (arith, a.ok)
number_le Never = omega arith

same_number : (a b : Least) → number a ≡ number b → a ≡ b
same_number (Seconds a) (Seconds b) e = ap Seconds (alike a b e)
same_number (Seconds a) Never e = absurd (omega (arith, a.ok))
same_number Never (Seconds b) e = absurd (omega (arith, b.ok))
same_number Never Never e = refl

number_seconds : (n : ℕ) → number (seconds n) ≡ min n 65535
number_seconds n = go (nat_lt n 65535) refl
  where
    go : (t : Bool) → nat_lt n 65535 ≡ t → number (cond t (Seconds (held 65534 n)) Never) ≡ min n 65535
    go true e = omega (arith, ltb-true n 65535 e)
    go false e = omega (arith, ltb-false n 65535 e)

number_plus : (a b : Least) → number (plus a b) ≡ min (number a) (number b)
number_plus Never b = omega (arith, number_le b)
number_plus (Seconds a) Never = omega (arith, a.ok)
number_plus (Seconds a) (Seconds b) = refl

number_times : (a b : Least) → number (times a b) ≡ min (number a + number b) 65535
number_times Never b = omega arith
number_times (Seconds a) Never = omega arith
number_times (Seconds a) (Seconds b) = number_seconds (a.value + b.value)

pub least_laws : Laws zero one plus times star
least_laws = record {
  plus_assoc = λ a b c. same_number _ _ (simp number_plus (omega arith));
  plus_comm = λ a b. same_number _ _ (simp number_plus (omega arith));
  plus_idem = λ a. same_number _ _ (simp number_plus (omega arith));
  plus_zero = λ a. same_number _ _ (simp number_plus (omega (arith, number_le a)));
  times_assoc = λ a b c. same_number _ _ (simp number_times (omega arith));
  times_comm = λ a b. same_number _ _ (simp number_times (omega arith));
  times_one = λ a. same_number _ _ (simp number_times (omega (arith, number_le a)));
  times_zero = λ a. same_number _ _ (simp number_times (omega arith));
  times_plus = λ a b c. same_number _ _ (simp (number_times, number_plus) (omega arith));
  star_finite = λ a. (0, refl, same_number _ _ (simp (number_plus) (omega arith)));
}

abbrev pub least_algebra : Algebra Least
least_algebra = record { zero = zero; one = one; plus = plus; times = times; star = star; laws = least_laws }
