-- The laws of a kind without its star: an idempotent commutative semiring, or dioid. What follows
-- from these alone serves the engines and also a kind that is still to show its star.
use Rattle.std.proofs.Common.{◌≡◌, ℕ, suc}
use Rattle.semiring.specs.Algebra.{Algebra, Laws, powers}

pub record Dioid {K : Type 0} (none unit : K) (plus times : K → K → K) : Type 0 where
  pub plus_assoc : (a b c : K) → plus (plus a b) c ≡ plus a (plus b c)
  pub plus_comm : (a b : K) → plus a b ≡ plus b a
  pub plus_idem : (a : K) → plus a a ≡ a
  pub plus_zero : (a : K) → plus a none ≡ a
  pub times_assoc : (a b c : K) → times (times a b) c ≡ times a (times b c)
  pub times_comm : (a b : K) → times a b ≡ times b a
  pub times_one : (a : K) → times a unit ≡ a
  pub times_zero : (a : K) → times a none ≡ none
  pub times_plus : (a b c : K) → times a (plus b c) ≡ plus (times a b) (times a c)

-- s is a^0 + .. + a^n for some n, and adding a^(n+1) leaves it.
abbrev pub FiniteStar : {K : Type 0} → K → (K → K → K) → (K → K → K) → K → K → Type 0
FiniteStar unit plus times a s = (n : ℕ) × (s ≡ powers unit plus times a n) × (powers unit plus times a (suc n) ≡ powers unit plus times a n)

-- A kind's laws, its star left out.
pub dioid : {K : Type 0} (k : Algebra K) → Dioid k.zero k.one k.plus k.times
dioid k = record {
  plus_assoc = k.laws.plus_assoc;
  plus_comm = k.laws.plus_comm;
  plus_idem = k.laws.plus_idem;
  plus_zero = k.laws.plus_zero;
  times_assoc = k.laws.times_assoc;
  times_comm = k.laws.times_comm;
  times_one = k.laws.times_one;
  times_zero = k.laws.times_zero;
  times_plus = k.laws.times_plus;
}

-- A dioid in which every star is finite is a kind.
pub lawful : {K : Type 0} {none unit : K} {plus times : K → K → K} (star : K → K) → Dioid none unit plus times → ((a : K) → FiniteStar unit plus times a (star a)) → Laws none unit plus times star
lawful star d finite = record {
  plus_assoc = d.plus_assoc;
  plus_comm = d.plus_comm;
  plus_idem = d.plus_idem;
  plus_zero = d.plus_zero;
  times_assoc = d.times_assoc;
  times_comm = d.times_comm;
  times_one = d.times_one;
  times_zero = d.times_zero;
  times_plus = d.times_plus;
  star_finite = finite;
}
