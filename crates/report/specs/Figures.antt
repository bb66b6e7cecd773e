-- The four kinds of a sheet, and what each answers for a script.
use Rattle.std.specs.Prelude.{◌≡◌, ℕ, List, Some, None, Ok, Err, Result}
use Rattle.semiring.specs.Algebra.{Algebra}
use Rattle.script.specs.declared.branch.Branch.{Branch}
use Rattle.script.specs.declared.branch.Placed.{Placed}
use Rattle.script.specs.declared.fault.Fault.{Fault}
use Rattle.script.specs.Feed.{Feed}
use Rattle.linear.specs.System.{entry_at}
use Rattle.kinds.specs.declared.weights.Least.{Least}
use Rattle.kinds.specs.declared.weights.Most.{Most}
use Rattle.kinds.specs.declared.weights.Light.{Light}
use Rattle.kinds.specs.declared.weights.Disc.{Disc}
use Rattle.kinds.specs.Least as LeastFormulas
use Rattle.kinds.specs.Most as MostFormulas
use Rattle.kinds.specs.Light as LightFormulas
use Rattle.kinds.specs.Disc as DiscFormulas
use Rattle.kinds.specs.Laws.Least.{least_algebra}
use Rattle.kinds.specs.Laws.Most.{most_algebra}
use Rattle.kinds.specs.Laws.Light.{light_algebra}
use Rattle.kinds.specs.Laws.Star.{disc_algebra}
use Rattle.report.specs.Script.{routines, rules, fault_of}
use Rattle.report.specs.Settled.{Settled}
use Rattle.report.specs.declared.columns.Figures.{Figures}

-- A kind: its operations, how it weighs a branch, and how a figure is printed.
pub record Kind (K : Type 0) : Type 0 where
  pub algebra : Algebra K
  pub weight : Branch → K
  pub text : K → List ℕ

abbrev pub least_kind : Kind Least
least_kind = record { algebra = least_algebra; weight = LeastFormulas.weight; text = LeastFormulas.text }

abbrev pub most_kind : Kind Most
most_kind = record { algebra = most_algebra; weight = MostFormulas.weight; text = MostFormulas.text }

abbrev pub light_kind : Kind Light
light_kind = record { algebra = light_algebra; weight = LightFormulas.weight; text = LightFormulas.text }

abbrev pub disc_kind : Kind Disc
disc_kind = record { algebra = disc_algebra; weight = DiscFormulas.weight; text = DiscFormulas.text }

-- The figures of the routines by number, and the rounds that were made for them.
pub record Column (K : Type 0) : Type 0 where
  pub figures : ℕ → K
  pub rounds : ℕ

-- A column is what a kind makes of a script with n routines.
abbrev pub Fills : {K : Type 0} → Kind K → ℕ → List Placed → Column K → Type 0
Fills kind n items column = Settled kind.algebra n (rules kind.weight items) column.figures column.rounds

-- what lies in an array of figures
abbrev pub column_of : {K : Type 0} → Kind K → Figures K → Column K
column_of kind f = record { figures = entry_at kind.algebra f.values; rounds = f.rounds }

-- What a kind answers for a script.
abbrev pub FiguresOf : {K : Type 0} → Kind K → Feed → Result (Figures K) Fault → Type 0
FiguresOf kind feed (Ok f) = (fault_of feed ≡ None) × Fills kind (routines feed.items) feed.items (column_of kind f)
FiguresOf kind feed (Err fault) = fault_of feed ≡ Some fault
