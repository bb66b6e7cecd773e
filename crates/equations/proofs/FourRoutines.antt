-- The example: what start and each round give.
use Rattle.std.proofs.Common.{◌≡◌, ℕ, zero, suc, ◌<◌, Bool, true, false, List, [], ◌∷◌, refl, arith}
use Rattle.semiring.specs.Algebra.{Algebra}
use Rattle.semiring.specs.Truth.{truth}
use Rattle.semiring.proofs.Dioid.{dioid}
use Rattle.semiring.proofs.Order
use Rattle.linear.specs.System.{Least, right_side, entry_at}
use Rattle.equations.specs.Rule.{Rule, Within}
use Rattle.equations.specs.Equations.{image, slope}
use Rattle.equations.specs.Reached.{Image, Reached, start, round}
use Rattle.equations.specs.Example.{calling, example, ended, Example}
use Rattle.equations.proofs.Within.{no_calls, more_calls, no_rules, more_rules}
use Rattle.equations.proofs.Converging.{convergence}

-- f(v), where the linear system at v keeps it, is the least solution of that system.
pub image_least : {K : Type 0} (k : Algebra K) (n : ℕ) (script : List (Rule K)) (v x : ℕ → K) → Image k n script v x → ((r : ℕ) → r < n → x r ≡ right_side k n (slope k script v) (image k script v) x r) → Least k n (slope k script v) (image k script v) x
image_least k n script v x is solves = record {
  solves = solves;
  least = λ y h r l. rw (is r l) (Order.plus_parts (dioid k) (h r l)).1;
}

-- Two functions of the four routines, place by place.
abbrev Same : (ℕ → Bool) → (ℕ → Bool) → Type 0
Same g h = (r : ℕ) → r < 4 → g r ≡ h r

same : (g h : ℕ → Bool) → g 0 ≡ h 0 → g 1 ≡ h 1 → g 2 ≡ h 2 → g 3 ≡ h 3 → Same g h
same g h a b c e zero l = a
same g h a b c e (suc zero) l = b
same g h a b c e (suc (suc zero)) l = c
same g h a b c e (suc (suc (suc zero))) l = e
same g h a b c e (suc (suc (suc (suc r)))) l = absurd (omega arith)

-- Values in a list, what f gives there, and the right side of the linear system there.
abbrev value : List Bool → ℕ → Bool
value v = entry_at truth v

abbrev f : List Bool → ℕ → Bool
f v = image truth example (value v)

abbrev side : List Bool → List Bool → ℕ → Bool
side v x = right_side truth 4 (slope truth example (value v)) (f v) (value x)

-- The values after start, after one round, and after each further round.
abbrev started : List Bool
started = false ∷ false ∷ true ∷ false ∷ []

abbrev once : List Bool
once = false ∷ true ∷ true ∷ false ∷ []

-- A round from one list of values to the next.
rounded : (v x : List Bool) (rounds : ℕ) → Same (value x) (f v) → Same (value x) (side v x) → Reached truth 4 example (value v) rounds → Reached truth 4 example (value x) (suc rounds)
rounded v x rounds is solves reached = round reached (image_least truth 4 example (value v) (value x) is solves)

first : Reached truth 4 example (value started) 0
first = start (same (value started) (image truth example (λ q. false)) refl refl refl refl)

second : Reached truth 4 example (value once) 1
second =
    rounded started once 0 (same (value once) (f started) refl refl refl refl) (same (value once) (side started once) refl refl refl refl) first

third : Reached truth 4 example (value ended) 2
third =
    rounded once ended 1 (same (value ended) (f once) refl refl refl refl) (same (value ended) (side once ended) refl refl refl refl) second

-- A round keeps the last values.
again : (rounds : ℕ) → Reached truth 4 example (value ended) rounds → Reached truth 4 example (value ended) (suc rounds)
again rounds reached =
    rounded ended ended rounds (same (value ended) (f ended) refl refl refl refl) (same (value ended) (side ended ended) refl refl refl refl) reached

all_within : Within 4 example
all_within =
    more_rules 4 (calling 0 (1 ∷ 1 ∷ [])) _ (omega arith) (more_calls 4 1 (1 ∷ []) (omega arith) (more_calls 4 1 [] (omega arith) (no_calls 4))) (more_rules 4 (calling 1 (2 ∷ 2 ∷ [])) _ (omega arith) (more_calls 4 2 (2 ∷ []) (omega arith) (more_calls 4 2 [] (omega arith) (no_calls 4))) (more_rules 4 (calling 2 []) _ (omega arith) (no_calls 4) (more_rules 4 (calling 3 (3 ∷ [])) [] (omega arith) (more_calls 4 3 [] (omega arith) (no_calls 4)) (no_rules 4))))

pub example_holds : Example ended
example_holds =
    let reached = again 3 (again 2 third) in
    record {
      within = all_within;
      reached = reached;
      sum = (convergence truth).exact 4 example all_within (value ended) 4 reached ((convergence truth).enough 4 example all_within (value ended) reached);
    }
