-- The script that lies in two slices, and what is left of a slice that is written from the front.
use Rattle.std.specs.Prelude.{ℕ, zero, suc, ◌/◌, ◌%◌, List, [], ◌∷◌, ◌++◌, length, take, drop, slice_index_or}
use Rattle.semiring.specs.Algebra.{Algebra}
use Rattle.script.specs.declared.branch.Branch.{Branch}
use Rattle.equations.specs.Rule.{Rule}
use Rattle.equations.specs.declared.rules.Rules.{Rules}

-- f 0, .., f (n-1).
abbrev pub table : {A : Type 0} → (ℕ → A) → ℕ → List A
table f zero = []
table f (suc n) = table f n ++ f n ∷ []

-- The list with f 0, .., f (n-1) in its first n places; the others as they were.
abbrev pub written : {A : Type 0} → (ℕ → A) → ℕ → List A → List A
written f n xs = table f n ++ drop n xs

-- Rows of n places, one behind the other: row r, place q at r × n + q.
abbrev pub rows : {A : Type 0} → ℕ → (ℕ → ℕ → A) → ℕ → A
rows n f i = f (i / n) (i % n)

-- A branch with its weight, as a rule: the first `count` call places are meant.
abbrev pub rule_of : {K : Type 0} → Branch → K → Rule K
rule_of branch weight = record { routine = branch.routine; calls = take branch.count branch.calls; weight = weight }

-- What a place past the end of a branch list is read as.
abbrev pub no_branch : Branch
no_branch = record { routine = 0; count = 0; calls = []; seconds = 0; light = 0; turn = 0 }

-- The rules of the first `held` places: rule i is branch i with weight i.
abbrev pub rules_of : {K : Type 0} → Algebra K → ℕ → List Branch → List K → List (Rule K)
rules_of k held branches weights = table (λ i. rule_of (slice_index_or branches i no_branch) (slice_index_or weights i k.zero)) held

-- The rules of a `Rules`: every branch with its weight.
abbrev pub listed : {K : Type 0} → Algebra K → Rules K → List (Rule K)
listed k rules = rules_of k (length rules.branches.now) rules.branches.now rules.weights.now
