-- What the disc's formulas say, in the words of sets: which stations stand in each set.
use Rattle.std.specs.Prelude.{◌≡◌, ℕ, ◌+◌, ◌%◌, ◌<◌, ◌≤◌, true, ◌⊎◌, ◌↔◌, ◌≢◌}
use Rattle.kinds.specs.declared.weights.Disc.{Disc}
use Rattle.kinds.specs.Disc.{has, zero, only, plus, times, divisor, star}

-- A station s of a and a station u of b with (s + u) mod 24 = t.
pub record Met (a b : Disc) (t : ℕ) : Type 0 where
  pub from : ℕ
  pub by : ℕ
  pub from_below : from < 24
  pub by_below : by < 24
  pub left : has a from ≡ true
  pub right : has b by ≡ true
  pub reaches : (from + by) % 24 ≡ t

-- g divides 24 and every station of d.
pub record Common (d : Disc) (g : ℕ) : Type 0 where
  pub whole : 24 % g ≡ 0
  pub each : (s : ℕ) → s < 24 → has d s ≡ true → s % g ≡ 0

pub record Stations : Type 0 where
  pub same : (a b : Disc) → ((t : ℕ) → t < 24 → has a t ≡ has b t) → a ≡ b
  pub none : (t : ℕ) → t < 24 → has zero t ≢ true
  pub lone : (s t : ℕ) → t < 24 → (has (only s) t ≡ true) ↔ (t ≡ s)
  pub union : (a b : Disc) (t : ℕ) → t < 24 → (has (plus a b) t ≡ true) ↔ ((has a t ≡ true) ⊎ (has b t ≡ true))
  pub product : (a b : Disc) (t : ℕ) → t < 24 → (has (times a b) t ≡ true) ↔ Met a b t
  pub multiples : (d : Disc) (t : ℕ) → t < 24 → (has (star d) t ≡ true) ↔ (t % divisor d ≡ 0)
  pub divides : (d : Disc) → Common d (divisor d)
  pub greatest : (d : Disc) (g : ℕ) → Common d g → g ≤ divisor d
