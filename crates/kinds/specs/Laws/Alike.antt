-- Bounded numbers are equal where their values are.
use Rattle.std.specs.Prelude.{◌≡◌, ℕ, ◌≤◌}
use mathlib.Core.HLevel.{is_prop→PathP}
use Rattle.std.proofs.Math.Bridge.{le_prop}
use Rattle.kinds.specs.declared.weights.Bounded.{Bounded}

pub alike : {top : ℕ} (a b : Bounded top) → a.value ≡ b.value → a ≡ b
alike {top} a b e = λ i. record { value = e i; ok = is_prop→PathP (λ i. e i ≤ top) (λ i. le_prop {n = e i} {m = top}) a.ok b.ok i }
