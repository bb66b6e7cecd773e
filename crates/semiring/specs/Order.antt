-- What the order of a kind is, whatever the kind: a partial order with zero for its least weight,
-- in which a sum is the least upper bound of its two parts and a product is monotone in both.
use Rattle.std.specs.Prelude.{◌≡◌}
use Rattle.semiring.specs.Algebra.{Algebra, Under}

pub record OrderLaws {K : Type 0} (k : Algebra K) : Type 0 where
  pub reflexive : (a : K) → Under k a a
  pub transitive : (a b c : K) → Under k a b → Under k b c → Under k a c
  pub antisymmetric : (a b : K) → Under k a b → Under k b a → a ≡ b
  pub zero_least : (a : K) → Under k k.zero a
  pub sum_above : (a b : K) → Under k a (k.plus a b) × Under k b (k.plus a b)
  pub sum_least : (a b c : K) → Under k a c → Under k b c → Under k (k.plus a b) c
  pub product_monotone : (a b x y : K) → Under k a x → Under k b y → Under k (k.times a b) (k.times x y)
