-- The equation x = a x + b in one unknown, what its least solution is, and what the star has to
-- do with it.
use Rattle.std.specs.Prelude.{◌≡◌, ℕ}
use Rattle.semiring.specs.Algebra.{Algebra, Under, power}

-- x solves the equation, and lies under every y with a y + b under y; so it lies under every
-- other solution.
pub record LeastSolution {K : Type 0} (k : Algebra K) (a b x : K) : Type 0 where
  pub solves : x ≡ k.plus (k.times a x) b
  pub least : (y : K) → Under k (k.plus (k.times a y) b) y → Under k x y

-- What star(a) is for, whatever the kind: it is the least solution of x = a x + one, and times b
-- that of x = a x + b; it is its own square and lies above every power of a; the star of a sum is
-- the product of the stars, and a greater weight has a greater star.
pub record StarLaws {K : Type 0} (k : Algebra K) (a : K) : Type 0 where
  pub least : LeastSolution k a k.one (k.star a)
  pub scaled : (b : K) → LeastSolution k a b (k.times (k.star a) b)
  pub square : k.times (k.star a) (k.star a) ≡ k.star a
  pub powers : (i : ℕ) → Under k (power k.one k.times a i) (k.star a)
  pub sum : (b : K) → k.star (k.plus a b) ≡ k.times (k.star a) (k.star b)
  pub order : (b : K) → Under k a b → Under k (k.star a) (k.star b)
