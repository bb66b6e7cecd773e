-- Sets of numbers below n, held as the bits of a number.
use Rattle.std.specs.Prelude.{ℕ, zero, suc, ◌+◌, ◌*◌, Bool, false, cond, ◌||◌}

-- The number whose bit 2^s is set exactly where p says yes of s, for s below n.
abbrev pub bits_of : (ℕ → Bool) → ℕ → ℕ
bits_of p zero = 0
bits_of p (suc n) = cond (p 0) 1 0 + 2 * bits_of (λ s. p (suc s)) n

-- p says yes of some number below n.
unfoldable pub any : ℕ → (ℕ → Bool) → Bool
any zero p = false
any (suc n) p = p n || any n p
