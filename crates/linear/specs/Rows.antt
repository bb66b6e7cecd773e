-- What the row operations of a system leave.
use Rattle.std.specs.Prelude.{◌≡◌, ℕ, ◌<◌, ◌≤◌, drop}
use Rattle.semiring.specs.Algebra.{Algebra}
use Rattle.linear.specs.declared.system.System.{System}
use Rattle.linear.specs.System.{cell, entry_at, right_side, Free}

module _ {K : Type 0} where
  -- Both have as many unknowns, and lie in the same two slices.
  pub record SameSlices (s s' : System K) : Type 0 where
    pub size : s'.n ≡ s.n
    pub grid : s'.grid.ghost_name ≡ s.grid.ghost_name
    pub column : s'.column.ghost_name ≡ s.column.ghost_name

  -- Only the grid is written, and only in its first n × n places.
  pub record OnlyGrid (s s' : System K) : Type 0 where
    pub slices : SameSlices s s'
    pub past : Free s.n s.grid.now s'.grid.now
    pub column : s'.column.now ≡ s.column.now

  -- Only the column is written, and only in its first n places.
  pub record OnlyColumn (s s' : System K) : Type 0 where
    pub slices : SameSlices s s'
    pub past : drop s.n s'.column.now ≡ drop s.n s.column.now
    pub grid : s'.grid.now ≡ s.grid.now

module _ {K : Type 0} (k : Algebra K) where
  -- The weights of the grid and the values of the column, each by its place.
  abbrev pub cells_of : System K → ℕ → ℕ → K
  cells_of s = cell k s.n s.grid.now

  abbrev pub values_of : System K → ℕ → K
  values_of s = entry_at k s.column.now

  -- What row r makes of the values, plus the value of r itself.
  abbrev pub row_value : System K → ℕ → K
  row_value s = right_side k s.n (cells_of s) (values_of s) (values_of s)

  -- Row r times a weight, and row r plus row p times a weight.
  abbrev pub scaled : System K → ℕ → K → ℕ → K
  scaled s r by q = k.times by (cells_of s r q)

  abbrev pub added : System K → ℕ → K → ℕ → ℕ → K
  added s r by p q = k.plus (cells_of s r q) (k.times by (cells_of s p q))

  -- Row r holds f at its first j places, and nothing else is written.
  pub record Rewritten (r j : ℕ) (f : ℕ → K) (s s' : System K) : Type 0 where
    pub done : (q : ℕ) → q < j → cells_of s' r q ≡ f q
    pub rest : (i q : ℕ) → i < s.n → q < s.n → (i ≡ r → j ≤ q) → cells_of s' i q ≡ cells_of s i q
    pub only : OnlyGrid s s'
