-- The numbering of routine names: each name has the number of its place among the names met so
-- far, and a new name comes last.
use Rattle.std.specs.Prelude.{ℕ, suc, cond, List, [], ◌∷◌}
use Rattle.std.specs.Str.{bytes_eq}

-- A name is the list of its bytes; a legend is the names in the order of their numbers.
abbrev pub Legend : Type 0
Legend = List (List ℕ)

-- the number of a name: its place in the legend, or the next number where it is new
abbrev pub number_of : Legend → List ℕ → ℕ
number_of [] w = 0
number_of (x ∷ xs) w = cond (bytes_eq x w) 0 (suc (number_of xs w))

-- the legend once a name has been met
abbrev pub met : Legend → List ℕ → Legend
met [] w = w ∷ []
met (x ∷ xs) w = cond (bytes_eq x w) (x ∷ xs) (x ∷ met xs w)

-- several names, from the left
abbrev pub all_met : Legend → List (List ℕ) → Legend
all_met legend [] = legend
all_met legend (w ∷ ws) = all_met (met legend w) ws

abbrev pub numbers_of : Legend → List (List ℕ) → List ℕ
numbers_of legend [] = []
numbers_of legend (w ∷ ws) = number_of legend w ∷ numbers_of (met legend w) ws
