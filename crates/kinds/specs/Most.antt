-- Most seconds, never or 0 to 65,535: the sum is the larger, never first; the product adds, held at
-- 65,535, and never with anything is never; zero is never, one is 0; the star is 0 for never and
-- for 0, else 65,535.
use Rattle.std.specs.Prelude.{ℕ, ◌+◌, cond, List, codes, decimal, ◌==◌, nat_lt}
use Rattle.script.specs.declared.branch.Branch.{Branch}
use Rattle.kinds.specs.Bounded.{held, larger}
use Rattle.kinds.specs.declared.weights.Most.{Most}
use Rattle.kinds.specs.declared.weights.Most.TheVariants.{Seconds, Never}

-- So many seconds, held at 65,535.
abbrev pub seconds : ℕ → Most
seconds n = Seconds (held 65535 n)

abbrev pub zero : Most
zero = Never

abbrev pub one : Most
one = seconds 0

abbrev pub plus : Most → Most → Most
plus Never b = b
plus (Seconds a) Never = Seconds a
plus (Seconds a) (Seconds b) = Seconds (larger a b)

abbrev pub times : Most → Most → Most
times Never b = Never
times (Seconds a) Never = Never
times (Seconds a) (Seconds b) = seconds (a.value + b.value)

abbrev pub star : Most → Most
star Never = one
star (Seconds a) = cond (nat_lt 0 a.value) (seconds 65535) one

-- A branch weighs its seconds, those past a script's range too: every record's fit.
abbrev pub weight : Branch → Most
weight b = seconds b.seconds

-- Seconds print in decimal, and 65,535 as what it stands for.
abbrev pub text : Most → List ℕ
text Never = codes "never"
text (Seconds a) = cond (a.value == 65535) (codes "unlimited") (decimal a.value)
