-- How a list of branches is written as a script file, and the law that reading such a file gives
-- exactly those branches back.
use Rattle.std.specs.Prelude.{◌≡◌, ℕ, suc, ◌+◌, ◌<◌, ◌≤◌, max, true, List, [], ◌∷◌, ◌++◌, length, take, None, decimal, slice_index, slice_index_or}
use Rattle.script.specs.declared.branch.Branch.{Branch}
use Rattle.script.specs.declared.branch.Placed.{Placed}
use Rattle.script.specs.Feed.{Feed}
use Rattle.reader.specs.Format.{is_name, line_end, space, plus_sign, minus_sign}
use Rattle.script.specs.Legend.{Legend}
use Rattle.reader.specs.Text.{first_line, four}

-- the calls of a branch that are counted, by number
abbrev pub branch_calls : Branch → List ℕ
branch_calls b = take b.count b.calls

-- the numbers that a branch names, in the order in which a file has them
abbrev pub mentions : Branch → List ℕ
mentions b = b.routine ∷ branch_calls b

module _ (names : Legend) where
  abbrev pub name_of : ℕ → List ℕ
  name_of number = slice_index_or names number []

  -- names joined by plus signs
  abbrev pub joined_names : List ℕ → List ℕ
  joined_names [] = []
  joined_names (m ∷ []) = name_of m
  joined_names (m ∷ n ∷ ns) = name_of m ++ plus_sign ∷ joined_names (n ∷ ns)

  -- a lone minus sign for no calls
  abbrev pub written_calls : List ℕ → List ℕ
  written_calls [] = minus_sign ∷ []
  written_calls (m ∷ ms) = joined_names (m ∷ ms)

  -- a line without its end: five words, one space apart
  abbrev pub written_line : Branch → List ℕ
  written_line b =
      name_of b.routine ++ space ∷ (decimal b.seconds ++ space ∷ (decimal b.light ++ space ∷ (decimal b.turn ++ space ∷ written_calls (branch_calls b))))

  abbrev pub written_lines : List Branch → List ℕ
  written_lines [] = []
  written_lines (b ∷ bs) = written_line b ++ line_end ∷ written_lines bs

  abbrev pub written : List Branch → List ℕ
  written bs = first_line ++ line_end ∷ written_lines bs

  -- the branches with their lines and bytes, from a line that begins at a byte
  abbrev pub placed_lines : ℕ → ℕ → List Branch → List Placed
  placed_lines line byte [] = []
  placed_lines line byte (b ∷ bs) = record { branch = b; place = record { line = line; byte = byte } } ∷ placed_lines (line + 1) (byte + length (written_line b) + 1) bs

-- Different names, each well formed, at most 32.
pub record GoodNames (names : Legend) : Type 0 where
  pub formed : (i : ℕ) → i < length names → is_name (slice_index_or names i []) ≡ true
  pub apart : (i j : ℕ) → i < length names → j < length names → slice_index_or names i [] ≡ slice_index_or names j [] → i ≡ j
  pub few : length names ≤ 32

-- A branch in range: every field within its bounds, and the call places that are not counted
-- hold 0.
pub record GoodBranch (names : Legend) (b : Branch) : Type 0 where
  pub routine : b.routine < length names
  pub count : b.count ≤ 4
  pub calls : (i : ℕ) → i < b.count → slice_index b.calls i < length names
  pub places : b.calls ≡ four (branch_calls b)
  pub seconds : b.seconds ≤ 3600
  pub light : b.light ≤ 65535
  pub turn : b.turn ≤ 23

-- how many numbers have been seen, once these have been too
abbrev pub seen_after : ℕ → List ℕ → ℕ
seen_after seen [] = seen
seen_after seen (m ∷ ms) = seen_after (max seen (suc m)) ms

-- Numbers as first met: each is among those that have been seen, or the next one.
abbrev pub AsMet : ℕ → List ℕ → Type 0
AsMet seen [] = Unit {0}
AsMet seen (m ∷ ms) = (m ≤ seen) × AsMet (max seen (suc m)) ms

-- Branches in range whose numbers are as first met.
abbrev pub GoodBranches : Legend → ℕ → List Branch → Type 0
GoodBranches names seen [] = Unit {0}
GoodBranches names seen (b ∷ bs) = GoodBranch names b × AsMet seen (mentions b) × GoodBranches names (seen_after seen (mentions b)) bs

-- A text that is written from branches in range, with well-formed names numbered as first met,
-- stands for exactly those branches, in order and at their places, and ends plainly.
abbrev pub ReadBack : List ℕ → Feed → Type 0
ReadBack text feed =
    (names : Legend) (branches : List Branch) →
    GoodNames names →
    GoodBranches names 0 branches →
    length text ≤ 16384 →
    text ≡ written names branches →
    feed ≡ record { items = placed_lines names 2 (length first_line + 1) branches; ending = None }
