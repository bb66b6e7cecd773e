-- The worked figures of the sheet, one after the other.
use Rattle.std.proofs.Common.{◌≡◌, ℕ, zero, suc, ◌≤◌, length, take, List, [], ◌∷◌, ◌++◌, refl, ap, arith}
use Rattle.linear.specs.System.{entry_at, right_side}
use Rattle.equations.specs.Rule.{Rule}
use Rattle.equations.specs.Equations.{image, slope}
use Rattle.equations.proofs.FourRoutines.{image_least}
use Rattle.kinds.specs.declared.weights.Bounded.{Bounded}
use Rattle.kinds.specs.declared.weights.Least.{Least as Weight}
use Rattle.kinds.specs.declared.weights.Least.TheVariants as least
use Rattle.kinds.specs.declared.weights.Most.TheVariants as most
use Rattle.kinds.specs.Least as Least
use Rattle.kinds.specs.Most as Most
use Rattle.kinds.specs.Laws.Alike.{alike}
use Rattle.kinds.specs.Laws.Least.{least_algebra}
use Rattle.kinds.specs.Laws.Most.{most_algebra}
use Rattle.kinds.specs.Figures.{Hold}
use Rattle.newton.specs.Figures.{chain, chain_started, chain_once, chain_solved, waiting, endless, sheet_figures, IsHeld}
use Rattle.newton.proofs.Worked.{Each, each, rules, Settle, Moves, Stepped, is_held, start_gives, climb_gives, round_gives, round_refused, close_gives, settle_gives}

pub hold_all : (xs ys : List (Type 0)) → Hold xs → Hold ys → Hold (xs ++ ys)
hold_all [] ys hold rest = rest
hold_all (x ∷ xs) ys hold rest = (hold.0, hold_all xs ys hold.1 rest)

-- never is no number of seconds
some_seconds : (b : Bounded 65534) → least.Never ≡ least.Seconds b → ⊥
some_seconds b e = cc

started_moves : Moves least_algebra Least.weight 3 chain chain_started
started_moves rest solves = some_seconds _ (solves 1 (omega arith))

once_moves : Moves least_algebra Least.weight 3 chain chain_once
once_moves rest solves = some_seconds _ (solves 0 (omega arith))

-- A round from values of the chain, where f of them solves the linear system there.
abbrev script : List (Rule Weight)
script = rules least_algebra Least.weight 3 chain

chain_round :
    (before after : List Weight) → Moves least_algebra Least.weight 3 chain before → 3 ≤ length after → take 3 after ≡ after →
    ((rest : List Weight) → Each 3 (λ r. entry_at least_algebra after r ≡ image least_algebra script (entry_at least_algebra (before ++ rest)) r)) →
    ((rest : List Weight) → Each 3 (λ r. entry_at least_algebra after r ≡ right_side least_algebra 3 (slope least_algebra script (entry_at least_algebra (before ++ rest))) (image least_algebra script (entry_at least_algebra (before ++ rest))) (entry_at least_algebra after) r)) →
    Stepped least_algebra Least.weight 3 chain before after
chain_round before after moves long whole is solves = record {
  moves = moves;
  long = long;
  whole = whole;
  least = λ rest. image_least least_algebra 3 script (entry_at least_algebra (before ++ rest)) (entry_at least_algebra after) (each 3 _ (is rest)) (each 3 _ (solves rest));
}

-- two bounded numbers of one value
same : (a b : Bounded 65534) → a.value ≡ b.value → least.Seconds a ≡ least.Seconds b
same a b e = ap least.Seconds (alike a b e)

first_round : Stepped least_algebra Least.weight 3 chain chain_started chain_once
first_round =
    chain_round chain_started chain_once started_moves (omega arith) refl (λ rest. (refl, (refl, (refl, tt)))) (λ rest. (refl, (same _ _ refl, (refl, tt))))

second_round : Stepped least_algebra Least.weight 3 chain chain_once chain_solved
second_round =
    chain_round chain_once chain_solved once_moves (omega arith) refl (λ rest. (refl, (refl, (refl, tt)))) (λ rest. (same _ _ refl, (same _ _ refl, (refl, tt))))

chain_settles : Settle least_algebra Least.weight 3 chain chain_solved
chain_settles rest = each 3 _ (refl, (refl, (refl, tt)))

abbrev chain_path : ℕ → List Weight
chain_path zero = chain_started
chain_path (suc zero) = chain_once
chain_path (suc (suc j)) = chain_solved

waiting_settles : Settle most_algebra Most.weight 1 waiting (Most.seconds 4 ∷ [])
waiting_settles rest = each 1 _ (ap most.Seconds (alike _ _ refl), tt)

endless_settles : Settle least_algebra Least.weight 1 endless (Least.zero ∷ [])
endless_settles rest = each 1 _ (refl, tt)

nothing_settles : Settle least_algebra Least.weight 0 [] []
nothing_settles rest = each 0 _ tt

chain_held : IsHeld least_algebra Least.weight 3 chain
chain_held =
    is_held least_algebra Least.weight 3 chain (omega arith) (omega arith) (each 3 _ ((omega arith, (omega arith, (omega arith, (omega arith, tt)))), ((omega arith, (omega arith, (omega arith, (omega arith, tt)))), ((omega arith, (omega arith, tt)), tt))))

waiting_held : IsHeld most_algebra Most.weight 1 waiting
waiting_held =
    is_held most_algebra Most.weight 1 waiting (omega arith) (omega arith) (each 2 _ ((omega arith, (omega arith, tt)), ((omega arith, (omega arith, (omega arith, tt))), tt)))

endless_held : IsHeld least_algebra Least.weight 1 endless
endless_held =
    is_held least_algebra Least.weight 1 endless (omega arith) (omega arith) (each 1 _ ((omega arith, (omega arith, (omega arith, tt))), tt))

pub sheet_figures_hold : Hold sheet_figures
sheet_figures_hold = (
  chain_held,
  (
    start_gives _ _ _ _ _ refl,
    (
      round_gives _ _ _ _ 0 (omega arith) _ _ first_round,
      (
        round_gives _ _ _ _ 1 (omega arith) _ _ second_round,
        (
          settle_gives _ _ _ _ chain_path 2 (each 2 _ (first_round, (second_round, tt))) chain_settles 0 (omega arith) refl,
          (
            climb_gives _ _ _ _ 1 _ _ once_moves (λ rest. refl),
            (
              settle_gives _ _ _ _ (λ j. chain_solved) 0 (λ j l. absurd (omega arith)) chain_settles 1 (omega arith) refl,
              (
                waiting_held,
                (
                  start_gives _ _ _ _ _ refl,
                  (
                    round_refused _ _ _ _ 0 _ waiting_settles,
                    (
                      close_gives _ _ _ _ 0 _ refl waiting_settles,
                      (
                        endless_held,
                        (
                          start_gives _ _ _ _ _ refl,
                          (
                            close_gives _ _ _ _ 0 _ refl endless_settles,
                            (
                              is_held _ _ _ _ (omega arith) (omega arith) (λ i l. absurd (omega arith)),
                              (
                                start_gives _ _ _ _ _ refl,
                                (close_gives _ _ _ _ 0 _ refl nothing_settles, tt),
                              ),
                            ),
                          ),
                        ),
                      ),
                    ),
                  ),
                ),
              ),
            ),
          ),
        ),
      ),
    ),
  ),
)
