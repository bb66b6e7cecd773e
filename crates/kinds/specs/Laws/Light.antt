-- Light keeps the laws of a kind.
use Rattle.std.specs.Prelude.{◌≡◌}
use Rattle.std.proofs.Common.{ap, arith}
use Rattle.semiring.specs.Algebra.{Algebra, Laws}
use Rattle.kinds.specs.declared.weights.Light.{Light}
use Rattle.kinds.specs.Light.{zero, one, plus, times, star}
use Rattle.kinds.specs.Laws.Alike.{alike}

pub same_level : (a b : Light) → a.level.value ≡ b.level.value → a ≡ b
same_level a b e = ap {B = Light} (λ l. record { level = l }) (alike a.level b.level e)

pub light_laws : Laws zero one plus times star
light_laws = record {
  plus_assoc = λ a b c. same_level _ _ (omega arith);
  plus_comm = λ a b. same_level _ _ (omega arith);
  plus_idem = λ a. same_level _ _ (omega arith);
  plus_zero = λ a. same_level _ _ (omega arith);
  times_assoc = λ a b c. same_level _ _ (omega arith);
  times_comm = λ a b. same_level _ _ (omega arith);
  times_one = λ a. same_level _ _ (omega (arith, a.level.ok));
  times_zero = λ a. same_level _ _ (omega arith);
  times_plus = λ a b c. same_level _ _ (omega arith);
  star_finite = λ a. (0, same_level _ _ (omega arith), same_level _ _ (omega (arith, a.level.ok)));
}

abbrev pub light_algebra : Algebra Light
light_algebra = record { zero = zero; one = one; plus = plus; times = times; star = star; laws = light_laws }
