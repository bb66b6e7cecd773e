-- What lies on a bench, and what its calls leave as it was.
use Rattle.std.specs.Prelude.{◌≡◌}
use Rattle.newton.specs.declared.sheet.Work.{Work}
use Rattle.newton.specs.declared.sheet.bench.Bench.{Bench}
use Rattle.newton.specs.Slices.{SlicesOf, beside}

module _ {K : Type 0} where
  -- The five slices of a bench, and the sheet that is at work on it.
  abbrev pub laid : Bench K → SlicesOf K
  laid b = beside b.script b.values.now b.column.now b.grid.now

  abbrev pub sheet_of : Bench K → Work
  sheet_of b = record { progress = b.progress }

  -- Both have a sheet of one size and one script, and the same three slices lie on them.
  pub record SameBench (b b' : Bench K) : Type 0 where
    pub size : b'.progress.size ≡ b.progress.size
    pub script : b'.script ≡ b.script
    pub values : b'.values.ghost_name ≡ b.values.ghost_name
    pub column : b'.column.ghost_name ≡ b.column.ghost_name
    pub grid : b'.grid.ghost_name ≡ b.grid.ghost_name
