-- What lies in the slices that are lent to a call.
use Rattle.std.specs.Prelude.{◌≡◌, List}
use Rattle.script.specs.declared.branch.Branch.{Branch}
use Rattle.newton.specs.declared.slices.Script.{Script}
use Rattle.newton.specs.declared.slices.Space.{Space}

-- What lies in the five slices.
pub record SlicesOf (K : Type 0) : Type 0 where
  pub branches : List Branch
  pub weights : List K
  pub values : List K
  pub column : List K
  pub grid : List K

-- The slices of a script, and three more.
abbrev pub beside : {K : Type 0} → Script K → List K → List K → List K → SlicesOf K
beside script values column grid = record { branches = script.branches.now; weights = script.weights.now; values = values; column = column; grid = grid }

-- The slices of a script and a space.
abbrev pub slices : {K : Type 0} → Script K → Space K → SlicesOf K
slices script space = beside script space.values.now space.column.now space.grid.now

-- A space lends the same three slices as before; what lies in them may be new.
pub record SameLent {K : Type 0} (before after : Space K) : Type 0 where
  pub values : after.values.ghost_name ≡ before.values.ghost_name
  pub column : after.column.ghost_name ≡ before.column.ghost_name
  pub grid : after.grid.ghost_name ≡ before.grid.ghost_name
