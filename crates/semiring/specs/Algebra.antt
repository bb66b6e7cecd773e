-- What a kind of weight is: two fixed weights, a sum, a product and a star, with the laws that
-- every kind proves. In the field's words, a commutative idempotent semiring in which every star
-- is a finite sum of powers.
use Rattle.std.specs.Prelude.{◌≡◌, ℕ, zero, suc, Bool, true}

-- a^0 is one, a^(i+1) is a × a^i.
abbrev pub power : {K : Type 0} → K → (K → K → K) → K → ℕ → K
power one times a zero = one
power one times a (suc i) = times a (power one times a i)

-- a^0 + .. + a^k.
abbrev pub powers : {K : Type 0} → K → (K → K → K) → (K → K → K) → K → ℕ → K
powers one plus times a zero = one
powers one plus times a (suc k) = plus (powers one plus times a k) (power one times a (suc k))

-- The laws of a kind.
pub record Laws {K : Type 0} (none unit : K) (plus times : K → K → K) (star : K → K) : Type 0 where
  pub plus_assoc : (a b c : K) → plus (plus a b) c ≡ plus a (plus b c)
  pub plus_comm : (a b : K) → plus a b ≡ plus b a
  pub plus_idem : (a : K) → plus a a ≡ a
  pub plus_zero : (a : K) → plus a none ≡ a
  pub times_assoc : (a b c : K) → times (times a b) c ≡ times a (times b c)
  pub times_comm : (a b : K) → times a b ≡ times b a
  pub times_one : (a : K) → times a unit ≡ a
  pub times_zero : (a : K) → times a none ≡ none
  pub times_plus : (a b c : K) → times a (plus b c) ≡ plus (times a b) (times a c)
  -- star(a) is a^0 + .. + a^k for some k, and adding a^(k+1) leaves it
  pub star_finite : (a : K) → (k : ℕ) × (star a ≡ powers unit plus times a k) × (powers unit plus times a (suc k) ≡ powers unit plus times a k)

-- A kind: its weights zero and one, its operations, and their laws.
pub record Algebra (K : Type 0) : Type 0 where
  pub zero : K
  pub one : K
  pub plus : K → K → K
  pub times : K → K → K
  pub star : K → K
  pub laws : Laws zero one plus times star

-- a lies under b where a + b is b.
abbrev pub Under : {K : Type 0} → Algebra K → K → K → Type 0
Under k a b = k.plus a b ≡ b

-- An equality that says yes of a weight and itself, and of no two others.
pub record IsIdentity {K : Type 0} (eq : K → K → Bool) : Type 0 where
  pub sound : (a b : K) → eq a b ≡ true → a ≡ b
  pub reflexive : (a : K) → eq a a ≡ true
