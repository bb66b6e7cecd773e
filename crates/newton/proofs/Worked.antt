-- What the calls leave on a script of known branches, from what they promise on any.
use Rattle.std.proofs.Common.{◌≡◌, ℕ, zero, suc, ◌+◌, ◌*◌, ◌<◌, ◌≤◌, List, [], ◌∷◌, ◌++◌, length, take, drop, map, Ok, Err, Result, refl, sym, ap, ap₂, ◌∙◌, subst, inl, inr, arith}
use Rattle.std.specs.Prelude.{slice_index_or}
use Rattle.std.proofs.Math.Nat.{lt_of_not-le}
use Rattle.std.proofs.lemmas.List.{take_at, take_all, take-append-drop, length-map}
use Rattle.std.proofs.Math.Seq.{take-length}
use Rattle.semiring.specs.Algebra.{Algebra}
use Rattle.script.specs.declared.branch.Branch.{Branch}
use Rattle.script.specs.declared.refusal.sheet.SheetRefusal.{SheetRefusal as Refusal}
use Rattle.linear.specs.System.{Least, entry_at}
use Rattle.linear.proofs.Existence.{least_unique}
use Rattle.equations.specs.Rule.{Rule}
use Rattle.equations.specs.Equations.{image, slope, Solves}
use Rattle.equations.specs.Held.{no_branch, table, written, rules_of}
use Rattle.equations.proofs.Slices.{held_cut, table_ext, length-table}
use Rattle.newton.specs.declared.sheet.Size.{Size}
use Rattle.newton.specs.declared.sheet.Settled.{Settled}
use Rattle.newton.specs.Questions.{Question, Passed, Refused}
use Rattle.newton.specs.Slices.{SlicesOf}
use Rattle.newton.specs.Working.{held_rules, values_of, Sound, AllSound, SolvedBy, slice_questions, due_questions, close_questions, round_questions, Cleared, Figured, NewtonStep, Made, LeavesOff}
use Rattle.newton.specs.Figures.{figure_of, Reads, Holds, IsHeld, StartGives, RoundGives, ClimbGives, RoundRefused, CloseGives, SettleGives}
use Rattle.newton.proofs.Settling.{room_still}
use Rattle.newton.proofs.Written.{table_read, written_size}

-- What holds of every number below n, one after the other.
abbrev pub Each : ℕ → (ℕ → Type 0) → Type 0
Each zero P = Unit {0}
Each (suc n) P = P zero × Each n (λ r. P (suc r))

pub each : (n : ℕ) (P : ℕ → Type 0) → Each n P → (r : ℕ) → r < n → P r
each zero P all r l = absurd (omega arith)
each (suc n) P all zero l = all.0
each (suc n) P all (suc r) l = each n (λ r. P (suc r)) all.1 r (omega arith)

-- Where every question is answered yes, none refuses.
not_refused : (qs : List Question) (why : Refusal) → Passed qs → Refused qs why → ⊥
not_refused [] why passed refused = refused
not_refused (q ∷ qs) why passed (inl this) = this.0 passed.0
not_refused (q ∷ qs) why passed (inr later) = not_refused qs why passed.1 later.1

module _ {K : Type 0} (k : Algebra K) where
  figure_in : (values rest : List K) (routine : ℕ) → routine < length values → Ok (entry_at k (values ++ rest) routine) ≡ figure_of values routine
  figure_in [] rest routine l = absurd (omega arith)
  figure_in (v ∷ vs) rest zero l = refl
  figure_in (v ∷ vs) rest (suc routine) l = figure_in vs rest routine (omega arith)

  figure_past : (values : List K) (routine : ℕ) → length values ≤ routine → Err Refusal.Routine ≡ figure_of values routine
  figure_past [] routine l = refl
  figure_past (v ∷ vs) zero l = absurd (omega arith)
  figure_past (v ∷ vs) (suc routine) l = figure_past vs routine (omega arith)

module _ {K : Type 0} (k : Algebra K) (weight : Branch → K) (n : ℕ) (script : List Branch) where
  abbrev Held : Size → SlicesOf K → Type 0
  Held size s = Holds k weight n script size s

  abbrev pub rules : List (Rule K)
  rules = rules_of k (length script) script (map weight script)

  rules_are : (size : Size) (s : SlicesOf K) → Held size s → held_rules k size s ≡ rules
  rules_are size s h =
      let within : length script ≤ length s.branches = omega (arith, h.held, h.asked.0.branches) in
      ap (λ m. rules_of k m s.branches s.weights) h.held ∙ sym (held_cut k (length script) s.branches s.weights within) ∙ ap₂ (λ bs ws. rules_of k (length bs) bs ws) h.branches h.weights

  -- What holds of the script, and of values with anything behind them, holds of the slices.
  known : (P : ℕ → List (Rule K) → List K → Type 0) (size : Size) (s : SlicesOf K) (values : List K) → Held size s → take n s.values ≡ values → ((rest : List K) → P n rules (values ++ rest)) → P size.n (held_rules k size s) s.values
  known P size s values h is p =
      subst (λ m. P m (held_rules k size s) s.values) (sym h.routines)
      (subst (λ rs. P n rs s.values) (sym (rules_are size s h))
      (subst (P n rules) (ap (λ vs. vs ++ drop n s.values) (sym is) ∙ take-append-drop n s.values) (p (drop n s.values))))

  -- A call that keeps branches and weights, and the slices' lengths, keeps the script held.
  kept : (size : Size) (s s' : SlicesOf K) → Held size s → size.n ≤ length s'.values → Cleared k size.n s s' → Held size s'
  kept size s s' h places cleared = record {
    routines = h.routines;
    held = h.held;
    branches = ap (take (length script)) cleared.branches ∙ h.branches;
    weights = ap (take (length script)) cleared.weights ∙ h.weights;
    asked = (room_still k size s s' h.asked.0 places cleared, (subst (AllSound size) (sym cleared.branches) h.asked.1.0, tt));
  }

  front : (f : ℕ → K) (m : ℕ) (xs ys : List K) → m ≡ n → ys ≡ written f m xs → take n ys ≡ table f m
  front f m xs ys same is = ap (take n) is ∙ take_at (table f m) (drop m xs) n (length-table f m ∙ same)

  -- Values, with anything behind them, that solve the equations of the script, or do not.
  abbrev pub Settle : List K → Type 0
  Settle values = (rest : List K) → Solves k n rules (entry_at k (values ++ rest))

  abbrev pub Moves : List K → Type 0
  Moves values = (rest : List K) → Solves k n rules (entry_at k (values ++ rest)) → ⊥

  -- Where f, and one Newton round, go from values.
  abbrev pub Lifted : List K → List K → Type 0
  Lifted before after = (rest : List K) → table (image k rules (entry_at k (before ++ rest))) n ≡ after

  pub record Stepped (before after : List K) : Type 0 where
    pub moves : Moves before
    pub long : n ≤ length after
    pub whole : take n after ≡ after
    pub least : (rest : List K) → Least k n (slope k rules (entry_at k (before ++ rest))) (image k rules (entry_at k (before ++ rest))) (entry_at k after)

  module _ (size : Size) (s : SlicesOf K) (values : List K) (h : Held size s) (is : take n s.values ≡ values) where
    solved : Settle values → SolvedBy k size s
    solved = known (λ m rs vs. Solves k m rs (entry_at k vs)) size s values h is

    unsolved : Moves values → SolvedBy k size s → ⊥
    unsolved = known (λ m rs vs. Solves k m rs (entry_at k vs) → ⊥) size s values h is

    stepped : (s' : SlicesOf K) (after : List K) → Stepped values after → NewtonStep k size s s' → Held size s' × (take n s'.values ≡ after)
    stepped s' after st step =
        let x : Least k size.n _ _ (entry_at k after) = known (λ m rs vs. Least k m (slope k rs (entry_at k vs)) (image k rs (entry_at k vs)) (entry_at k after)) size s values h is st.least in
        let same : (r : ℕ) → r < n → values_of k s' r ≡ entry_at k after r = λ r l. least_unique k size.n _ _ (values_of k s') (entry_at k after) step.least x r (omega (arith, h.routines)) in
        let room : n ≤ length s'.values = omega (arith, h.routines, h.asked.0.values, step.places) in (
          kept size s s' h (omega (arith, h.asked.0.values, step.places)) step.cleared,
          table_read k n s'.values room ∙ table_ext (values_of k s') (entry_at k after) n same ∙ sym (table_read k n after st.long) ∙ st.whole,
        )

    lifted : (s' : SlicesOf K) (after : List K) → Lifted values after → s'.values ≡ written (image k (held_rules k size s) (values_of k s)) size.n s.values → take n s'.values ≡ after
    lifted s' after gives written =
        front _ size.n s.values s'.values h.routines written ∙ known (λ m rs vs. table (image k rs (entry_at k vs)) m ≡ after) size s values h is gives

    reads : (f : Settled) (rounds : ℕ) → f.progress.size ≡ size → n ≡ length values → f.progress.rounds ≡ rounds → Reads k f s rounds values
    reads f rounds same long count = record { rounds_are = count; figures_are = figures_are }
      where
        whole : s.values ≡ values ++ drop n s.values
        whole = sym (take-append-drop n s.values) ∙ ap (λ vs. vs ++ drop n s.values) is

        routines : f.progress.size.n ≡ n
        routines = ap (λ (z : Size). z.n) same ∙ h.routines

        figures_are : (routine : ℕ) (r : Result K Refusal) → Figured k f s.values routine r → r ≡ figure_of values routine
        figures_are routine (Ok figure) told =
            ap Ok (told.1 ∙ ap (λ vs. entry_at k vs routine) whole) ∙ figure_in k values (drop n s.values) routine (omega (arith, told.0.1.0, routines, long))
        figures_are routine (Err why) (inl short) = absurd (short.0 (omega (arith, routines, h.routines, h.asked.0.values)))
        figures_are routine (Err why) (inr (room, inl past)) = ap Err past.1 ∙ figure_past k values routine (omega (arith, routines, long, lt_of_not-le past.0))
        figures_are routine (Err why) (inr (room, inr none)) = absurd none.1

  -- Slices as long as the script asks for, which hold it.
  pub is_held : n ≤ 32 → length script ≤ 200 → ((i : ℕ) → i < length script → Sound n (slice_index_or script i no_branch)) → IsHeld k weight n script
  is_held small few sound =
      let zeros : ℕ → K = λ r. k.zero in
      record {
        size = record { n = n; held = length script; routines = small; branches = few };
        s = record { branches = script; weights = map weight script; values = table zeros n; column = table zeros n; grid = table zeros (n * n) };
        holds = record {
          routines = refl;
          held = refl;
          branches = take-length script;
          weights = take_all (length script) (map weight script) (omega (arith, length-map script weight));
          asked = (
            record {
              branches = omega arith;
              weights = omega (arith, length-map script weight);
              values = omega (arith, length-table zeros n);
              column = omega (arith, length-table zeros n);
              grid = omega (arith, length-table zeros (n * n));
            },
            (sound, tt),
          );
        };
      }

  pub start_gives : (after : List K) → table (image k rules (λ r. k.zero)) n ≡ after → StartGives k weight n script after
  start_gives after gives d s (Ok w) s' h started =
      let room : d.size.n ≤ length s'.values = omega (arith, h.asked.0.values, written_size _ d.size.n s.values s'.values h.asked.0.values started.values) in (
        w,
        refl,
        record {
          holds = subst (λ size. Held size s') (sym started.size) (kept d.size s s' h room started.cleared);
          rounds_are = started.rounds;
          values_are = front _ d.size.n s.values s'.values h.routines started.values ∙ known (λ m rs vs. table (image k rs (λ r. k.zero)) m ≡ after) d.size s (take n s.values) h refl (λ rest. gives);
        },
      )
  start_gives after gives d s (Err e) s' h refused = absurd (not_refused (slice_questions k d.size s) e.1 h.asked refused.0)

  pub climb_gives : (rounds : ℕ) (before after : List K) → Moves before → Lifted before after → ClimbGives k weight n script rounds before after
  climb_gives rounds before after moves gives w s s' (Ok done) st climbed =
      let h = st.holds in
      let n' = w.progress.size.n in
      let is = climbed.lifts in
      let room : n' ≤ length s'.values = omega (arith, h.asked.0.values, written_size _ n' s.values s'.values h.asked.0.values is.values) in (
        refl,
        record {
          holds = kept w.progress.size s s' h room is.cleared;
          rounds_are = st.rounds_are;
          values_are = lifted w.progress.size s before h st.values_are s' after gives is.values;
        },
      )
  climb_gives rounds before after moves gives w s s' (Err why) st refused =
      absurd (not_refused (due_questions k w.progress.size s) why (st.holds.asked.0, (st.holds.asked.1.0, (unsolved w.progress.size s before st.holds st.values_are moves, tt))) refused.0)

  pub round_gives : (rounds : ℕ) → rounds < n → (before after : List K) → Stepped before after → RoundGives k weight n script rounds before after
  round_gives rounds few before after st' w s calls w' s' calls' (Ok done) st rounded =
      let counts = rounded.counts in
      let new = stepped w.progress.size s before st.holds st.values_are s' after st' counts.step in (
        refl,
        record {
          holds = subst (λ size. Held size s') (sym counts.size) new.0;
          rounds_are = counts.rounds ∙ ap (λ m. m + 1) st.rounds_are;
          values_are = new.1;
        },
      )
  round_gives rounds few before after st' w s calls w' s' calls' (Err why) st refused =
      let due = unsolved w.progress.size s before st.holds st.values_are st'.moves in
      let left : w.progress.rounds < w.progress.size.n = omega (arith, few, st.rounds_are, st.holds.routines) in
      absurd (not_refused (round_questions k w s) why (st.holds.asked.0, (st.holds.asked.1.0, (due, (left, tt)))) refused.0)

  pub round_refused : (rounds : ℕ) (values : List K) → Settle values → RoundRefused k weight n script rounds values
  round_refused rounds values settle w s calls w' s' calls' (Ok done) st rounded =
      absurd (rounded.asked.1.1.0 (solved w.progress.size s values st.holds st.values_are settle))
  round_refused rounds values settle w s calls w' s' calls' (Err why) st refused = ap Err (go refused.0)
    where
      is : SolvedBy k w.progress.size s
      is = solved w.progress.size s values st.holds st.values_are settle

      go : Refused (round_questions k w s) why → why ≡ Refusal.Solved
      go (inl short) = absurd (short.0 st.holds.asked.0)
      go (inr (room, inl unsound)) = absurd (unsound.0 st.holds.asked.1.0)
      go (inr (room, inr (sound, inl not_due))) = not_due.1
      go (inr (room, inr (sound, inr (due, rest)))) = absurd (due is)

  pub close_gives : (rounds : ℕ) (values : List K) → n ≡ length values → Settle values → CloseGives k weight n script rounds values
  close_gives rounds values long settle w s (Ok f) st closed =
      (f, refl, reads w.progress.size s values st.holds st.values_are f rounds (ap (λ p. p.size) closed.progress) long (ap (λ p. p.rounds) closed.progress ∙ st.rounds_are))
  close_gives rounds values long settle w s (Err e) st refused =
      absurd (not_refused (close_questions k w s) e.1 (st.holds.asked.0, (st.holds.asked.1.0, (solved w.progress.size s values st.holds st.values_are settle, tt))) refused.0)

  -- Values that rounds go through one after the other, to the last ones, which solve the equations.
  module _ (path : ℕ → List K) (last : ℕ) (steps : (j : ℕ) → j < last → Stepped (path j) (path (suc j))) (settle : Settle (path last)) where
    pub record At (size : Size) (j : ℕ) (s : SlicesOf K) : Type 0 where
      pub within : j ≤ last
      pub holds : Held size s
      pub values_are : take n s.values ≡ path j

    made_at : (size : Size) (s : SlicesOf K) → Held size s → take n s.values ≡ path zero → (j : ℕ) (s' : SlicesOf K) → Made k size j s s' → At size j s'
    made_at size s h is zero s' made = record {
      within = omega arith;
      holds = subst (Held size) (sym made) h;
      values_are = ap (λ x. take n x.values) made ∙ is;
    }
    made_at size s h is (suc j) s' made =
        let mid = made_at size s h is j made.0 made.1 in
        let more : j < last = lt_of_not-le (λ past. let e : j ≡ last = omega (arith, mid.within, past) in made.2 (solved size made.0 (path last) mid.holds (mid.values_are ∙ ap path e) settle)) in
        let new = stepped size made.0 (path j) mid.holds mid.values_are s' (path (suc j)) (steps j more) made.3 in
        record { within = more; holds = new.0; values_are = new.1 }

    -- what settle leaves
    left_at : (size : Size) (before : ℕ) (s : SlicesOf K) (calls after : ℕ) (s' : SlicesOf K) (calls' : ℕ) → Held size s → take n s.values ≡ path zero → (left : LeavesOff k size before s calls after s' calls') → At size left.rounds_on.more s'
    left_at size before s calls after s' calls' h is left =
        let at = made_at size s h is left.rounds_on.more left.last left.rounds_on.made in
        record {
          within = at.within;
          holds = kept size s s' h (omega (arith, at.holds.asked.0.values, ap length left.values)) left.cleared;
          values_are = ap (take n) left.values ∙ at.values_are;
        }

    pub settle_gives : (rounds : ℕ) → rounds + last < n → n ≡ length (path last) → SettleGives k weight n script rounds (path zero) (rounds + last) (path last)
    settle_gives rounds few long w s calls s' calls' (Ok f) st settled =
        let size = w.progress.size in
        let left = settled.left in
        let j = left.rounds_on.more in
        let at = left_at size w.progress.rounds s calls f.progress.rounds s' calls' st.holds st.values_are left in
        let end : j ≡ last = omega (arith, at.within, lt_of_not-le (λ l. unsolved size s' (path j) at.holds at.values_are (steps j l).moves settled.solved)) in
        (f, refl, reads size s' (path last) at.holds (at.values_are ∙ ap path end) f (rounds + last) settled.size long (omega (arith, left.rounds_on.count, st.rounds_are, end)))
    settle_gives rounds few long w s calls s' calls' (Err e) st (inl refused) =
        absurd (not_refused (slice_questions k w.progress.size s) e.1 st.holds.asked refused.0)
    settle_gives rounds few long w s calls s' calls' (Err e) st (inr (why, stops)) =
        let at = left_at w.progress.size w.progress.rounds s calls e.0.progress.rounds s' calls' st.holds st.values_are stops.left in
        absurd (omega (arith, at.within, stops.left.rounds_on.count, st.rounds_are, stops.all, st.holds.routines, few))
