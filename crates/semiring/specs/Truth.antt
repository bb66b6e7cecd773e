-- The smallest kind: the two truth values, with or for the sum and and for the product.
use Rattle.std.specs.Prelude.{Bool, true, false, ◌&&◌, ◌||◌, refl}
use Rattle.semiring.specs.Algebra.{Algebra, Laws}

pub truth_laws : Laws false true ◌||◌ ◌&&◌ (λ a. true)
truth_laws = record {
  plus_assoc = elim [ true ↦ λ b c. refl | false ↦ λ b c. refl ];
  plus_comm = elim [ true ↦ elim [ true ↦ refl | false ↦ refl ] | false ↦ elim [ true ↦ refl | false ↦ refl ] ];
  plus_idem = elim [ true ↦ refl | false ↦ refl ];
  plus_zero = elim [ true ↦ refl | false ↦ refl ];
  times_assoc = elim [ true ↦ λ b c. refl | false ↦ λ b c. refl ];
  times_comm = elim [ true ↦ elim [ true ↦ refl | false ↦ refl ] | false ↦ elim [ true ↦ refl | false ↦ refl ] ];
  times_one = elim [ true ↦ refl | false ↦ refl ];
  times_zero = elim [ true ↦ refl | false ↦ refl ];
  times_plus = elim [ true ↦ λ b c. refl | false ↦ λ b c. refl ];
  star_finite = λ a. (0, refl, refl);
}

abbrev pub truth : Algebra Bool
truth = record {
  zero = false;
  one = true;
  plus = ◌||◌;
  times = ◌&&◌;
  star = λ a. true;
  laws = truth_laws;
}
