-- What rounds leave of the places that they do not name.
use Rattle.std.proofs.Common.{◌≡◌, ℕ, zero, suc, ◌*◌, ◌≤◌, ◌++◌, length, drop, ap, ◌∙◌, subst, sym, arith, inl, inr, Ok, Err, Result}
use Rattle.std.specs.Prelude.{IfOk, IfErr}
use Rattle.std.specs.Result.{result_and}
use Rattle.semiring.specs.Algebra.{Algebra}
use Rattle.linear.specs.Solved.{one_more}
use Rattle.equations.specs.Held.{table, written}
use Rattle.newton.specs.Slices.{SlicesOf}
use Rattle.newton.specs.declared.sheet.Size.{Size}
use Rattle.newton.specs.declared.sheet.Work.{Work}
use Rattle.newton.specs.declared.sheet.Settled.{Settled}
use Rattle.script.specs.declared.refusal.sheet.SheetRefusal.{SheetRefusal as Refusal}
use Rattle.newton.specs.Questions.{Passed}
use Rattle.newton.specs.Working.{HasRoom, slice_questions, due_questions, RoundsEnd, SettlesBy, SolvedBy, Cleared, NewtonStep, Counts, GoesOn, Rounded, Made, RoundsOn, LeavesOff}
use Rattle.newton.proofs.Written.{written_tail, written_size}

module _ {K : Type 0} (k : Algebra K) (size : Size) where
  abbrev n : ℕ
  n = size.n

  column_kept : (j : ℕ) (s s' : SlicesOf K) → Made k size j s s' → drop n s'.column ≡ drop n s.column
  column_kept zero s s' made = ap (λ x. drop n x.column) made
  column_kept (suc j) s s' made =
      written_tail (λ r. k.zero) n made.0.column s'.column made.3.cleared.column ∙ column_kept j s made.0 made.1

  grid_kept : (j : ℕ) (s s' : SlicesOf K) → Made k size j s s' → drop (n * n) s'.grid ≡ drop (n * n) s.grid
  grid_kept zero s s' made = ap (λ x. drop (n * n) x.grid) made
  grid_kept (suc j) s s' made =
      written_tail (λ r. k.zero) (n * n) made.0.grid s'.grid made.3.cleared.grid ∙ grid_kept j s made.0 made.1

  -- clearing keeps the room that the slices have
  pub room_still : (s s' : SlicesOf K) → HasRoom size s → n ≤ length s'.values → Cleared k n s s' → HasRoom size s'
  room_still s s' room places cleared = record {
    branches = omega (arith, room.branches, ap length cleared.branches);
    weights = omega (arith, room.weights, ap length cleared.weights);
    values = places;
    column = omega (arith, room.column, written_size (λ r. k.zero) n s.column s'.column room.column cleared.column);
    grid = omega (arith, room.grid, written_size (λ r. k.zero) (n * n) s.grid s'.grid room.grid cleared.grid);
  }

  -- one round more
  pub round_on :
      (before first : ℕ) (s mid s' : SlicesOf K) (calls calls' : ℕ) (w w' : Work) →
      w.progress.size ≡ size →
      RoundsOn k size before s first w.progress.rounds mid calls →
      (SolvedBy k size mid → ⊥) →
      Counts k w mid calls w' s' calls' →
      RoundsOn k size before s first w'.progress.rounds s' calls'
  round_on before first s mid s' calls calls' w w' same on due counts = record {
    more = suc on.more;
    made = (mid, on.made, due, subst (λ z. NewtonStep k z mid s') same counts.step);
    count = omega (arith, on.count, counts.rounds);
    calls_are = counts.calls_are ∙ ap one_more on.calls_are;
  }

  -- behind the rounds, column and grid are cleared once more
  pub left_off :
      (before calls after calls' : ℕ) (s last s' : SlicesOf K) →
      s'.branches ≡ s.branches →
      s'.weights ≡ s.weights →
      RoundsOn k size before s calls after last calls' →
      s'.values ≡ last.values →
      s'.column ≡ written (λ r. k.zero) n last.column →
      s'.grid ≡ written (λ r. k.zero) (n * n) last.grid →
      LeavesOff k size before s calls after s' calls'
  left_off before calls after calls' s last s' branches weights on values none none' = record {
    last = last;
    rounds_on = on;
    values = values;
    cleared = record {
      branches = branches;
      weights = weights;
      column = none ∙ ap (λ l. table (λ r. k.zero) n ++ l) (column_kept on.more s last on.made);
      grid = none' ∙ ap (λ l. table (λ r. k.zero) (n * n) ++ l) (grid_kept on.more s last on.made);
    };
  }

-- a round that goes on where it is due
pub rounded : {K : Type 0} (k : Algebra K) (w w' : Work) (s s' : SlicesOf K) (calls calls' : ℕ) → Passed (due_questions k w.progress.size s) → (end : Result (Unit {0}) Refusal) → GoesOn k w s calls w' s' calls' end → Rounded k w s calls w' s' calls' end
rounded k w w' s s' calls calls' asked (Ok done) goes =
    record { asked = (asked.0, (asked.1.0, (asked.1.1.0, (goes.0, tt)))); counts = goes.1 }
rounded k w w' s s' calls calls' asked (Err why) goes = (
  inr (asked.0, inr (asked.1.0, inr (asked.1.1.0, inl (λ less. omega (arith, less, goes.1), goes.0)))),
  goes.2,
  goes.3,
  goes.4,
)

-- settle, from what the rounds leave and how they end
module _ {K : Type 0} (k : Algebra K) (w w' : Work) (s s' : SlicesOf K) (calls calls' : ℕ) (asked : Passed (slice_questions k w.progress.size s)) (same : w'.progress.size ≡ w.progress.size) (left : LeavesOff k w.progress.size w.progress.rounds s calls w'.progress.rounds s' calls') where
  abbrev Answers : Result Settled Refusal → Type 0
  Answers r =
      IfOk r (λ f. SettlesBy k w s calls s' calls' (Ok f)) × IfErr r (λ why. SettlesBy k w s calls s' calls' (Err (w', why)))

  answers : (end : Result (Unit {0}) Refusal) → RoundsEnd k w.progress.size w'.progress.rounds s' end → Answers (result_and end (Ok (record { progress = w'.progress })))
  answers (Ok done) solved = (record { asked = asked; size = same; left = left; solved = solved }, tt)
  answers (Err why) ended =
      (tt, inr (ended.0, record { asked = asked; size = same; left = left; due = ended.1; all = ended.2 }))

  pub settles : (end : Result (Unit {0}) Refusal) (r : Result Settled Refusal) → RoundsEnd k w.progress.size w'.progress.rounds s' end → r ≡ result_and end (Ok (record { progress = w'.progress })) → Answers r
  settles end r ended is = subst Answers (sym is) (answers end ended)
