-- What lies in the slices that a bench gives back.
use Rattle.std.proofs.Common.{◌≡◌, List, sym, subst}
use Rattle.newton.specs.declared.sheet.bench.Bench.{Bench}
use Rattle.newton.specs.declared.slices.Script.{Script}
use Rattle.newton.specs.Slices.{SlicesOf, beside}
use Rattle.newton.specs.Bench.{laid}

-- what is so of a bench's slices is so of the same ones by other names
pub given_back : {K : Type 0} (P : SlicesOf K → Type 0) (b : Bench K) (script : Script K) (values column grid : List K) → b.script ≡ script → values ≡ b.values.now → column ≡ b.column.now → grid ≡ b.grid.now → P (laid b) → P (beside script values column grid)
given_back P b script values column grid same v c g = subst P (λ i. beside (same i) (sym v i) (sym c i) (sym g i))
