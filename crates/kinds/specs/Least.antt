-- Least seconds, 0 to 65,534 or never: the sum is the smaller, never last; the product adds, and
-- 65,535 or more is never; zero is never, one and every star are 0.
use Rattle.std.specs.Prelude.{ℕ, ◌+◌, cond, List, codes, decimal, nat_lt}
use Rattle.script.specs.declared.branch.Branch.{Branch}
use Rattle.kinds.specs.Bounded.{held, smaller}
use Rattle.kinds.specs.declared.weights.Least.{Least}
use Rattle.kinds.specs.declared.weights.Least.TheVariants.{Seconds, Never}

-- So many seconds; from 65,535 on, never.
abbrev pub seconds : ℕ → Least
seconds n = cond (nat_lt n 65535) (Seconds (held 65534 n)) Never

abbrev pub zero : Least
zero = Never

abbrev pub one : Least
one = seconds 0

abbrev pub plus : Least → Least → Least
plus Never b = b
plus (Seconds a) Never = Seconds a
plus (Seconds a) (Seconds b) = Seconds (smaller a b)

abbrev pub times : Least → Least → Least
times Never b = Never
times (Seconds a) Never = Never
times (Seconds a) (Seconds b) = seconds (a.value + b.value)

abbrev pub star : Least → Least
star a = one

-- A branch weighs its seconds, those past a script's range too. Of what a record holds 65,535 alone is
-- no number of this kind: it weighs never.
abbrev pub weight : Branch → Least
weight b = seconds b.seconds

-- Seconds print in decimal.
abbrev pub text : Least → List ℕ
text (Seconds a) = decimal a.value
text Never = codes "never"
