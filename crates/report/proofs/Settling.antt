-- What starting and settling a sheet makes of the rules that it holds.
use Rattle.std.proofs.Common.{◌≡◌, ℕ, zero, suc, ◌*◌, ◌<◌, ◌≤◌, length, List, [], ◌∷◌, sym, ap, ◌∙◌, subst, subst₂, inl, inr, Err, arith}
use Rattle.std.specs.List.{AllByRecursion}
use Rattle.semiring.specs.Algebra.{Algebra}
use Rattle.script.specs.declared.branch.Branch.{Branch}
use Rattle.linear.specs.System.{entry_at, Least}
use Rattle.equations.specs.Rule.{Rule, Within}
use Rattle.equations.specs.Equations.{image, slope, Solves}
use Rattle.equations.specs.Held.{rules_of, written}
use Rattle.equations.specs.Reached.{Image, Reached, start, round}
use Rattle.equations.proofs.Slices.{entry_written}
use Rattle.equations.proofs.Within.{CallsWithin, no_calls, more_calls, table_within}
use Rattle.equations.proofs.Converging.{convergence}
use Rattle.newton.specs.declared.sheet.Size.{Size}
use Rattle.newton.specs.declared.sheet.Draft.{Draft}
use Rattle.newton.specs.declared.sheet.Work.{Work}
use Rattle.newton.specs.declared.sheet.Settled.{Settled as Closed}
use Rattle.newton.specs.Questions.{Passed, Refused}
use Rattle.script.specs.declared.refusal.sheet.SheetRefusal.{SheetRefusal as Refusal}
use Rattle.newton.specs.Slices.{SlicesOf}
use Rattle.newton.specs.Working as Sheet
use Rattle.newton.proofs.Written.{written_size}
use Rattle.report.specs.Settled.{Made, Settled}

-- sound branches make rules of the sheet's routines
calls_within : (n : ℕ) (calls : List ℕ) → AllByRecursion (λ m. m < n) calls → CallsWithin n calls
calls_within n [] all = no_calls n
calls_within n (c ∷ calls) all = more_calls n c calls all.0 (calls_within n calls all.1)

pub sound_within : {K : Type 0} (k : Algebra K) (size : Size) (bs : List Branch) (ws : List K) → Sheet.AllSound size bs → Within size.n (rules_of k size.held bs ws)
sound_within k size bs ws sound =
    table_within size.n _ size.held (λ i l. let s = sound i l in (s.1.0, calls_within size.n _ s.1.1))

module _ {K : Type 0} (k : Algebra K) where
  -- values that are made by rounds are reached by rounds
  reached : (n : ℕ) (script : List (Rule K)) (j : ℕ) (v : ℕ → K) → Made k n script j v → Reached k n script v j
  reached n script zero v made = start made
  reached n script (suc j) v made = round (reached n script j made.0 made.1) made.3

  module _ (size : Size) where
    -- rounds leave the rules as they are
    same_rules : (j : ℕ) (s s' : SlicesOf K) → Sheet.Made k size j s s' → Sheet.held_rules k size s' ≡ Sheet.held_rules k size s
    same_rules zero s s' made = ap (Sheet.held_rules k size) made
    same_rules (suc j) s s' made =
        (λ i. rules_of k size.held (made.3.cleared.branches i) (made.3.cleared.weights i)) ∙ same_rules j s made.0 made.1

    made_on :
        (j : ℕ) (s s' : SlicesOf K) →
        Sheet.Made k size j s s' →
        Image k size.n (Sheet.held_rules k size s) (λ r. k.zero) (Sheet.values_of k s) →
        Made k size.n (Sheet.held_rules k size s) j (Sheet.values_of k s')
    made_on zero s s' made first =
        subst (λ x. Image k size.n (Sheet.held_rules k size s) (λ r. k.zero) (Sheet.values_of k x)) (sym made) first
    made_on (suc j) s s' made first =
        let mid = made.0 in
        let v = Sheet.values_of k mid in
        let same = same_rules j s mid made.1 in (
          v,
          made_on j s mid made.1 first,
          (λ solves. made.2 (subst (λ rules. Solves k size.n rules v) (sym same) solves)),
          subst (λ rules. Least k size.n (slope k rules v) (image k rules v) (Sheet.values_of k s')) same made.3.least,
        )

    -- the rounds from a start
    module _ (s s₁ s' : SlicesOf K) (calls calls' rounds : ℕ)
        (started : s₁.values ≡ written (image k (Sheet.held_rules k size s) (λ r. k.zero)) size.n s.values)
        (cleared : Sheet.Cleared k size.n s s₁)
        (left : Sheet.LeavesOff k size 0 s₁ calls rounds s' calls')
      where
        abbrev rules : List (Rule K)
        rules = Sheet.held_rules k size s

        first_rules : Sheet.held_rules k size s₁ ≡ rules
        first_rules i = rules_of k size.held (cleared.branches i) (cleared.weights i)

        last_rules : Sheet.held_rules k size s' ≡ rules
        last_rules =
            (λ i. rules_of k size.held (left.cleared.branches i) (left.cleared.weights i)) ∙ first_rules

        first_values : Image k size.n rules (λ r. k.zero) (Sheet.values_of k s₁)
        first_values = entry_written k (image k rules (λ r. k.zero)) size.n s.values s₁.values started

        all_made : Made k size.n rules rounds (entry_at k s'.values)
        all_made =
            let on = left.rounds_on in
            let counted : on.more ≡ rounds = omega (arith, on.count) in
            let here =
            subst (λ rs. Made k size.n rs on.more (Sheet.values_of k left.last)) first_rules
            (made_on on.more s₁ left.last on.made
            (subst (λ rs. Image k size.n rs (λ r. k.zero) (Sheet.values_of k s₁)) (sym first_rules) first_values)) in
            subst (λ j. Made k size.n rules j (entry_at k s'.values)) counted
            (subst (λ vs. Made k size.n rules on.more (entry_at k vs)) (sym left.values) here)

        pub solves_them : Sheet.SolvedBy k size s' → Solves k size.n rules (entry_at k s'.values)
        solves_them solved = subst (λ rs. Solves k size.n rs (entry_at k s'.values)) last_rules solved

        pub settled : Within size.n rules → Sheet.SolvedBy k size s' → rounds ≤ size.n → Settled k size.n rules (entry_at k s'.values) rounds
        settled within solved few = record {
          made = all_made;
          few = few;
          sum = (convergence k).exact size.n rules within (entry_at k s'.values) rounds (reached size.n rules rounds (entry_at k s'.values) all_made) (solves_them solved);
        }

        -- n rounds suffice, so no further one is due
        pub no_further : Within size.n rules → (Sheet.SolvedBy k size s' → ⊥) → rounds ≡ size.n → ⊥
        no_further within due all =
            let at_most = subst (λ j. Reached k size.n rules (entry_at k s'.values) j) all (reached size.n rules rounds (entry_at k s'.values) all_made) in
            due (subst (λ rs. Solves k size.n rs (entry_at k s'.values)) (sym last_rules) ((convergence k).enough size.n rules within (entry_at k s'.values) at_most))

  -- the same, of a draft that was started and settled
  module _ (d : Draft) (w : Work) (s s₁ s' : SlicesOf K) (calls calls' : ℕ)
      (ready : Passed (Sheet.slice_questions k d.size s)) (starts : Sheet.Starts k d s w s₁)
    where
      abbrev left_of : ℕ → Type 0
      left_of rounds = Sheet.LeavesOff k d.size 0 s₁ calls rounds s' calls'

      from_zero : (rounds : ℕ) → Sheet.LeavesOff k w.progress.size w.progress.rounds s₁ calls rounds s' calls' → left_of rounds
      from_zero rounds left = subst₂ (λ size first. Sheet.LeavesOff k size first s₁ calls rounds s' calls') starts.size starts.rounds left

      within : Within d.size.n (Sheet.held_rules k d.size s)
      within = sound_within k d.size s.branches s.weights ready.1.0

      pub settles_draft : (f : Closed) → Sheet.Settles k w s₁ calls f s' calls' → Settled k d.size.n (Sheet.held_rules k d.size s) (entry_at k s'.values) f.progress.rounds
      settles_draft f settles =
          let few = f.progress.bound in
          let same : f.progress.size.n ≡ d.size.n = ap (λ z. z.n) (settles.size ∙ starts.size) in
          settled d.size s s₁ s' calls calls' f.progress.rounds starts.values starts.cleared (from_zero f.progress.rounds settles.left) within
          (subst (λ z. Sheet.SolvedBy k z s') starts.size settles.solved) (omega arith)

      pub cannot_stop : (w' : Work) → Sheet.Stops k w s₁ calls w' s' calls' → ⊥
      cannot_stop w' stops =
          no_further d.size s s₁ s' calls calls' w'.progress.rounds starts.values starts.cleared (from_zero w'.progress.rounds stops.left) within
          (λ solved. stops.due (subst (λ z. Sheet.SolvedBy k z s') (sym starts.size) solved)) (stops.all ∙ ap (λ z. z.n) starts.size)

      -- what start leaves is ready to be settled
      room_left : Sheet.HasRoom d.size s₁
      room_left =
          let n = d.size.n in
          let room = ready.0 in
          record {
            branches = omega (arith, room.branches, ap length starts.cleared.branches);
            weights = omega (arith, room.weights, ap length starts.cleared.weights);
            values = omega (arith, room.values, written_size (image k (Sheet.held_rules k d.size s) (λ r. k.zero)) n s.values s₁.values room.values starts.values);
            column = omega (arith, room.column, written_size (λ r. k.zero) n s.column s₁.column room.column starts.cleared.column);
            grid = omega (arith, room.grid, written_size (λ r. k.zero) (n * n) s.grid s₁.grid room.grid starts.cleared.grid);
          }

      still_ready : {why : Refusal} → Refused (Sheet.slice_questions k w.progress.size s₁) why → ⊥
      still_ready (inl refused) = refused.0 (subst (λ z. Sheet.HasRoom z s₁) (sym starts.size) room_left)
      still_ready (inr (room, inl refused)) = refused.0 (subst₂ Sheet.AllSound (sym starts.size) (sym starts.cleared.branches) ready.1.0)
      still_ready (inr (room, inr more)) = more.1

      pub cannot_settle : (e : Work × Refusal) → Sheet.SettlesBy k w s₁ calls s' calls' (Err e) → ⊥
      cannot_settle e (inl refused) = still_ready refused.0
      cannot_settle e (inr stops) = cannot_stop e.0 stops.1
