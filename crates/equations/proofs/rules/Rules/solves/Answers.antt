use Rattle.std.proofs.Common.{◌≡◌, ℕ, ◌<◌, Bool, true, MatchBool, length, refl, subst, ◌∙◌, zero-add, arith, rules}
use Rattle.std.specs.List.{AllWithin, range_with_len}
use Rattle.std.proofs.lemmas.Iterator.{cases_from_all, YieldsList-from_range}
use Rattle.std.proofs.lemmas.List.FromFn.{length-range_with_len, get_or-range_with_len}
use Rattle.linear.specs.System.{entry_at}
use Rattle.equations.specs.Held.{listed}
use Rattle.equations.specs.Equations.{image}
use Rattle.equations.proofs.Converging.{convergence}
use Rattle.equations.proofs.rules.Rules.solves.Goals as goal

-- Yes to all below n: P below n.
all_below : (P : ℕ → Type 0) (Q : Type 0) (n : ℕ) (b : Bool) → MatchBool b (AllWithin P (range_with_len 0 n) 0 (length (range_with_len 0 n))) Q → b ≡ true → (r : ℕ) → r < n → P r
all_below P Q n b cases e r l =
    subst P (get_or-range_with_len 0 n r 0 l ∙ zero-add r) ((rw e at cases) r 0 (omega arith) (omega (arith, length-range_with_len 0 n)))

pub returns-clause-yes : goal.returns-clause-yes
returns-clause-yes g c =
    let k = g.K.Semiring.algebra in
    let v = entry_at k c.args.values.now in
    let P : ℕ → Type 0 = λ r. v r ≡ image k (listed k c.args.self.now) v r in
    all_below P _ c.args.n c.all.result (cases_from_all _ _ _ P (λ _. Unit {0}) c.all.ensures.ran (YieldsList-from_range 0 c.args.n c.args.n refl (omega arith)) (λ x q h. search rules) (λ x q h. tt))

pub returns-clause-convergence : goal.returns-clause-convergence
returns-clause-convergence g c = convergence g.K.Semiring.algebra
