-- Light, 0 to 65,535: the sum is the larger, the product the smaller; zero is 0, one and every
-- star are 65,535.
use Rattle.std.specs.Prelude.{ℕ, List, decimal}
use Rattle.script.specs.declared.branch.Branch.{Branch}
use Rattle.kinds.specs.Bounded.{held, smaller, larger}
use Rattle.kinds.specs.declared.weights.Light.{Light}

-- A level of light, held at 65,535.
abbrev pub light : ℕ → Light
light n = record { level = held 65535 n }

abbrev pub zero : Light
zero = light 0

abbrev pub one : Light
one = light 65535

abbrev pub plus : Light → Light → Light
plus a b = record { level = larger a.level b.level }

abbrev pub times : Light → Light → Light
times a b = record { level = smaller a.level b.level }

abbrev pub star : Light → Light
star a = one

-- A branch weighs its light: every record's fits.
abbrev pub weight : Branch → Light
weight b = light b.light

-- Light prints in decimal.
abbrev pub text : Light → List ℕ
text w = decimal w.level.value
