-- How a sheet is printed: a heading, a line for each routine in number order, and the rounds. A line
-- has its words one space apart, and byte 10 behind the last.
use Rattle.std.specs.Prelude.{ℕ, zero, suc, List, [], ◌∷◌, ◌++◌, length, codes, decimal, slice_index_or}
use Rattle.script.specs.Legend.{Legend}
use Rattle.kinds.specs.declared.weights.Least.{Least}
use Rattle.kinds.specs.declared.weights.Most.{Most}
use Rattle.kinds.specs.declared.weights.Light.{Light}
use Rattle.kinds.specs.declared.weights.Disc.{Disc}
use Rattle.report.specs.Figures.{Column, least_kind, most_kind, light_kind, disc_kind}

-- The columns of a sheet.
pub record Columns : Type 0 where
  pub least : Column Least
  pub most : Column Most
  pub light : Column Light
  pub disc : Column Disc

-- five words on a line
abbrev pub words : List ℕ → List ℕ → List ℕ → List ℕ → List ℕ → List ℕ
words a b c d e = a ++ (codes " " ++ (b ++ (codes " " ++ (c ++ (codes " " ++ (d ++ (codes " " ++ (e ++ 10 ∷ []))))))))

abbrev pub heading : List ℕ
heading = words (codes "routine") (codes "least") (codes "most") (codes "light") (codes "disc")

abbrev pub rounds_line : Columns → List ℕ
rounds_line c = words (codes "rounds") (decimal c.least.rounds) (decimal c.most.rounds) (decimal c.light.rounds) (decimal c.disc.rounds)

module _ (legend : Legend) (c : Columns) where
  -- the line of a routine
  abbrev pub line : ℕ → List ℕ
  line r =
      words (slice_index_or legend r []) (least_kind.text (c.least.figures r)) (most_kind.text (c.most.figures r))
      (light_kind.text (c.light.figures r)) (disc_kind.text (c.disc.figures r))

  -- the lines of the first routines
  abbrev pub lines : ℕ → List ℕ
  lines zero = []
  lines (suc r) = lines r ++ line r

  abbrev pub sheet_text : List ℕ
  sheet_text = heading ++ (lines (length legend) ++ rounds_line c)
