-- The disc, sets of stations 0 to 23: the sum is the union, the product has every (s + u) mod 24 of a
-- station s of the one and a station u of the other; zero is empty, one is {0}; the star has the
-- multiples of g, the greatest common divisor of 24 and all stations.
use Rattle.std.specs.Prelude.{ℕ, zero as none, suc, ◌+◌, ◌-◌, ◌/◌, ◌%◌, ◌^◌, Bool, false, cond, not, ◌&&◌, ◌||◌, List, [], ◌∷◌, ◌++◌, ◌==◌, nat_eq}
use Rattle.std.specs.Fmt.{digit_glyph}
use Rattle.script.specs.declared.branch.Branch.{Branch}
use Rattle.kinds.specs.Bits.{bits_of, any}
use Rattle.kinds.specs.declared.weights.Disc.{Disc}
use Rattle.kinds.specs.declared.weights.Multiples.{Multiples}
use Rattle.kinds.specs.Laws.Bits.{bits_of_below}

-- Station s stands in the set: its bit 2^s is set.
abbrev pub has : Disc → ℕ → Bool
has d s = d.bits / 2 ^ s % 2 == 1

-- The set of the stations of which p says yes.
unfoldable pub stations : (ℕ → Bool) → Disc
stations p = record { bits = bits_of p 24; ok = bits_of_below p 24 }

abbrev pub zero : Disc
zero = stations (λ t. false)

-- The set of one station; past 23 there is none, so the set is empty.
abbrev pub only : ℕ → Disc
only s = stations (λ t. nat_eq t s)

abbrev pub one : Disc
one = only 0

abbrev pub plus : Disc → Disc → Disc
plus a b = stations (λ t. has a t || has b t)

-- t is (s + u) mod 24 of some s of a and u of b.
abbrev pub meets : Disc → Disc → ℕ → Bool
meets a b t = any 24 (λ s. any 24 (λ u. has a s && has b u && (s + u) % 24 == t))

abbrev pub times : Disc → Disc → Disc
times a b = stations (meets a b)

-- g divides 24 and every station of the set.
abbrev pub divides : Disc → ℕ → Bool
divides d g = 24 % g == 0 && not (any 24 (λ s. has d s && not (s % g == 0)))

-- The greatest number up to n of which p says yes, or 0.
unfoldable pub greatest : (ℕ → Bool) → ℕ → ℕ
greatest p none = 0
greatest p (suc n) = cond (p (suc n)) (suc n) (greatest p n)

-- The greatest common divisor of 24 and all stations.
abbrev pub divisor : Disc → ℕ
divisor d = greatest (divides d) 24

abbrev pub multiples : ℕ → Disc
multiples g = stations (λ t. nat_eq (t % g) 0)

abbrev pub star : Disc → Disc
star d = multiples (divisor d)

-- A divisor with the bits of its multiples, and the table of all divisors of 24 up to n.
abbrev pub entry : ℕ → Multiples
entry g = record { divisor = g; bits = bits_of (λ t. nat_eq (t % g) 0) 24 }

abbrev pub table : ℕ → List Multiples
table none = []
table (suc n) = cond (24 % suc n == 0) (table n ++ (entry (suc n) ∷ [])) (table n)

-- The stations of d, each moved on by s.
abbrev pub turned : ℕ → Disc → Disc
turned s d = stations (λ t. has d ((t + 24 - s) % 24))

-- A branch weighs the set of its turn. A turn of 24 or more is no station, so such a record, out of
-- range, weighs the empty set: no way at all.
abbrev pub weight : Branch → Disc
weight b = only b.turn

-- The last k hexadecimal digits of n, in lower case, the highest first; a set prints as the six of
-- its bits.
abbrev pub hex : ℕ → ℕ → List ℕ
hex none n = []
hex (suc k) n = digit_glyph false (n / 16 ^ k % 16) ∷ hex k n

abbrev pub text : Disc → List ℕ
text d = hex 6 d.bits
