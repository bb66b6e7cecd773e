-- Numbers of at most `top`.
use Rattle.std.specs.Prelude.{ℕ, min, max}
use Rattle.std.proofs.Common.{arith}
use Rattle.kinds.specs.declared.weights.Bounded.{Bounded}

-- n, or the bound where n is past it.
abbrev pub held : (top n : ℕ) → Bounded top
held top n = record { value = min n top; ok = omega arith }

abbrev pub smaller : {top : ℕ} → Bounded top → Bounded top → Bounded top
smaller a b = record { value = min a.value b.value; ok = omega arith }

abbrev pub larger : {top : ℕ} → Bounded top → Bounded top → Bounded top
larger a b = record { value = max a.value b.value; ok = omega arith }
