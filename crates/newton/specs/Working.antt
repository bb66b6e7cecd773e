-- What the calls of a sheet at work promise, and what is read of a settled one. Each is said by
-- cases of the answer, over the sheet and all slices before and after.
use Rattle.std.specs.Prelude.{◌≡◌, ℕ, zero, suc, ◌+◌, ◌*◌, ◌<◌, ◌≤◌, ◌⊎◌, List, [], ◌∷◌, ◌++◌, length, drop, Ok, Err, Result, slice_index_or}
use Rattle.std.specs.List.{AllByRecursion}
use Rattle.semiring.specs.Algebra.{Algebra}
use Rattle.script.specs.declared.branch.Branch.{Branch}
use Rattle.linear.specs.System.{entry_at, Least}
use Rattle.linear.specs.Solved.{one_more}
use Rattle.equations.specs.Equations.{image, slope, Solves}
use Rattle.equations.specs.Held.{no_branch, rules_of, written}
use Rattle.equations.specs.Rule.{Rule}
use Rattle.script.specs.declared.refusal.sheet.SheetRefusal.{SheetRefusal as Refusal}
use Rattle.script.specs.declared.refusal.sheet.SheetRefusal.TheVariants.{Slices, Held, Solved, Rounds, Unsolved, Routine}
use Rattle.newton.specs.declared.sheet.Size.{Size}
use Rattle.newton.specs.declared.sheet.Draft.{Draft}
use Rattle.newton.specs.declared.sheet.Work.{Work}
use Rattle.newton.specs.declared.sheet.Settled.{Settled}
use Rattle.newton.specs.Questions.{Question, Passed, Refused}
use Rattle.newton.specs.Drafting.{named}
use Rattle.newton.specs.Slices.{SlicesOf}

-- a branch that has at most 4 calls and names routines of the sheet only
abbrev pub Sound : ℕ → Branch → Type 0
Sound n b = (b.count ≤ 4) × AllByRecursion (λ m. m < n) (named b)

-- every held branch is sound
abbrev pub AllSound : Size → List Branch → Type 0
AllSound size bs = (i : ℕ) → i < size.held → Sound size.n (slice_index_or bs i no_branch)

-- The slices have a place for each held branch, for each routine, and for each two routines.
pub record HasRoom {K : Type 0} (size : Size) (s : SlicesOf K) : Type 0 where
  pub branches : size.held ≤ length s.branches
  pub weights : size.held ≤ length s.weights
  pub values : size.n ≤ length s.values
  pub column : size.n ≤ length s.column
  pub grid : size.n * size.n ≤ length s.grid

module _ {K : Type 0} (k : Algebra K) where
  -- the rules that are held, and the values of the routines
  abbrev pub held_rules : Size → SlicesOf K → List (Rule K)
  held_rules size s = rules_of k size.held s.branches s.weights

  abbrev pub values_of : SlicesOf K → ℕ → K
  values_of s = entry_at k s.values

  -- The questions of every call that works on the slices.
  abbrev pub slice_questions : Size → SlicesOf K → List Question
  slice_questions size s = (Slices, HasRoom size s) ∷ (Held, AllSound size s.branches) ∷ []

  -- The first n places of the column and the first n × n of the grid hold zero; all others are as
  -- they were, and so are branches and weights.
  pub record Cleared (n : ℕ) (s s' : SlicesOf K) : Type 0 where
    pub branches : s'.branches ≡ s.branches
    pub weights : s'.weights ≡ s.weights
    pub column : s'.column ≡ written (λ r. k.zero) n s.column
    pub grid : s'.grid ≡ written (λ i. k.zero) (n * n) s.grid

  -- Start: the values are f of all zeros.
  pub record Starts (d : Draft) (s : SlicesOf K) (w : Work) (s' : SlicesOf K) : Type 0 where
    pub asked : Passed (slice_questions d.size s)
    pub size : w.progress.size ≡ d.size
    pub rounds : w.progress.rounds ≡ 0
    pub values : s'.values ≡ written (image k (held_rules d.size s) (λ r. k.zero)) d.size.n s.values
    pub cleared : Cleared d.size.n s s'

  abbrev pub Started : Draft → SlicesOf K → SlicesOf K → Result Work (Draft × Refusal) → Type 0
  Started d s s' (Ok w) = Starts d s w s'
  Started d s s' (Err e) = Refused (slice_questions d.size s) e.1 × (e.0 ≡ d) × (s' ≡ s)

  -- the values solve the equations of the held rules
  abbrev pub SolvedBy : Size → SlicesOf K → Type 0
  SolvedBy size s = Solves k size.n (held_rules size s) (values_of s)

  -- The questions of the calls that go on: those, and whether there is anything to do.
  abbrev pub due_questions : Size → SlicesOf K → List Question
  due_questions size s = slice_questions size s ++ (Solved, (SolvedBy size s → ⊥)) ∷ []

  -- The values become f of the values.
  pub record Lifts (size : Size) (s s' : SlicesOf K) : Type 0 where
    pub values : s'.values ≡ written (image k (held_rules size s) (values_of s)) size.n s.values
    pub cleared : Cleared size.n s s'

  -- Climb: its questions, and what it does.
  pub record Climbs (w : Work) (s s' : SlicesOf K) : Type 0 where
    pub asked : Passed (due_questions w.progress.size s)
    pub lifts : Lifts w.progress.size s s'

  abbrev pub Climbed : Work → SlicesOf K → SlicesOf K → Result (Unit {0}) Refusal → Type 0
  Climbed w s s' (Ok done) = Climbs w s s'
  Climbed w s s' (Err why) = Refused (due_questions w.progress.size s) why × (s' ≡ s)

  -- Close: only the state changes, and only where the values solve the equations.
  abbrev pub close_questions : Work → SlicesOf K → List Question
  close_questions w s = slice_questions w.progress.size s ++ (Unsolved, SolvedBy w.progress.size s) ∷ []

  pub record Closes (w : Work) (s : SlicesOf K) (f : Settled) : Type 0 where
    pub asked : Passed (close_questions w s)
    pub progress : f.progress ≡ w.progress

  abbrev pub Closed : Work → SlicesOf K → Result Settled (Work × Refusal) → Type 0
  Closed w s (Ok f) = Closes w s f
  Closed w s (Err e) = Refused (close_questions w s) e.1 × (e.0 ≡ w)

  -- Figure: the value of one routine.
  abbrev pub figure_questions : Settled → List K → ℕ → List Question
  figure_questions f values routine = (Slices, f.progress.size.n ≤ length values) ∷ (Routine, routine < f.progress.size.n) ∷ []

  abbrev pub Figured : Settled → List K → ℕ → Result K Refusal → Type 0
  Figured f values routine (Ok figure) = Passed (figure_questions f values routine) × (figure ≡ entry_at k values routine)
  Figured f values routine (Err why) = Refused (figure_questions f values routine) why

  -- One Newton round from the values before: the values become the least solution of the linear
  -- system with the slopes there for its grid and f there for its column.
  pub record NewtonStep (size : Size) (s s' : SlicesOf K) : Type 0 where
    pub least : Least k size.n (slope k (held_rules size s) (values_of s)) (image k (held_rules size s) (values_of s)) (values_of s')
    pub places : length s'.values ≡ length s.values
    pub tail : drop size.n s'.values ≡ drop size.n s.values
    pub cleared : Cleared size.n s s'

  -- Round: its questions, and what it does: one step, counted, with one call of the solver.
  abbrev pub round_questions : Work → SlicesOf K → List Question
  round_questions w s = due_questions w.progress.size s ++ (Rounds, w.progress.rounds < w.progress.size.n) ∷ []

  pub record Counts (w : Work) (s : SlicesOf K) (calls : ℕ) (w' : Work) (s' : SlicesOf K) (calls' : ℕ) : Type 0 where
    pub size : w'.progress.size ≡ w.progress.size
    pub rounds : w'.progress.rounds ≡ w.progress.rounds + 1
    pub step : NewtonStep w.progress.size s s'
    pub calls_are : calls' ≡ one_more calls

  pub record RoundsOnce (w : Work) (s : SlicesOf K) (calls : ℕ) (w' : Work) (s' : SlicesOf K) (calls' : ℕ) : Type 0 where
    pub asked : Passed (round_questions w s)
    pub counts : Counts w s calls w' s' calls'

  abbrev pub Rounded : Work → SlicesOf K → ℕ → Work → SlicesOf K → ℕ → Result (Unit {0}) Refusal → Type 0
  Rounded w s calls w' s' calls' (Ok done) = RoundsOnce w s calls w' s' calls'
  Rounded w s calls w' s' calls' (Err why) = Refused (round_questions w s) why × (w' ≡ w) × (s' ≡ s) × (calls' ≡ calls)

  -- A round where there is one left.
  abbrev pub GoesOn : Work → SlicesOf K → ℕ → Work → SlicesOf K → ℕ → Result (Unit {0}) Refusal → Type 0
  GoesOn w s calls w' s' calls' (Ok done) = (w.progress.rounds < w.progress.size.n) × Counts w s calls w' s' calls'
  GoesOn w s calls w' s' calls' (Err why) = (why ≡ Rounds) × (w.progress.rounds ≡ w.progress.size.n) × (w' ≡ w) × (s' ≡ s) × (calls' ≡ calls)

  -- So many rounds one after the other, each made where f of the values was not the values.
  abbrev pub Made : Size → ℕ → SlicesOf K → SlicesOf K → Type 0
  Made size zero s s' = s' ≡ s
  Made size (suc j) s s' = (mid : SlicesOf K) × Made size j s mid × (SolvedBy size mid → ⊥) × NewtonStep size mid s'

  -- The solver's count behind so many calls.
  abbrev pub counted : ℕ → ℕ → ℕ
  counted zero calls = calls
  counted (suc j) calls = one_more (counted j calls)

  -- Rounds from a sheet that has made some: how many, and what they leave.
  pub record RoundsOn (size : Size) (before : ℕ) (s : SlicesOf K) (calls after : ℕ) (s' : SlicesOf K) (calls' : ℕ) : Type 0 where
    pub more : ℕ
    pub made : Made size more s s'
    pub count : after ≡ before + more
    pub calls_are : calls' ≡ counted more calls

  -- Rounds end where the values solve the equations, or where none is left.
  abbrev pub RoundsEnd : Size → ℕ → SlicesOf K → Result (Unit {0}) Refusal → Type 0
  RoundsEnd size rounds s (Ok done) = SolvedBy size s
  RoundsEnd size rounds s (Err why) = (why ≡ Rounds) × (SolvedBy size s → ⊥) × (rounds ≡ size.n)

  -- What settle leaves: the values behind the rounds that it made, column and grid cleared.
  pub record LeavesOff (size : Size) (before : ℕ) (s : SlicesOf K) (calls after : ℕ) (s' : SlicesOf K) (calls' : ℕ) : Type 0 where
    pub last : SlicesOf K
    pub rounds_on : RoundsOn size before s calls after last calls'
    pub values : s'.values ≡ last.values
    pub cleared : Cleared size.n s s'

  -- Settle makes rounds as long as f of the values is not the values, then closes.
  pub record Settles (w : Work) (s : SlicesOf K) (calls : ℕ) (f : Settled) (s' : SlicesOf K) (calls' : ℕ) : Type 0 where
    pub asked : Passed (slice_questions w.progress.size s)
    pub size : f.progress.size ≡ w.progress.size
    pub left : LeavesOff w.progress.size w.progress.rounds s calls f.progress.rounds s' calls'
    pub solved : SolvedBy w.progress.size s'

  -- A further round is due, and n have been made: what was made is kept.
  pub record Stops (w : Work) (s : SlicesOf K) (calls : ℕ) (w' : Work) (s' : SlicesOf K) (calls' : ℕ) : Type 0 where
    pub asked : Passed (slice_questions w.progress.size s)
    pub size : w'.progress.size ≡ w.progress.size
    pub left : LeavesOff w.progress.size w.progress.rounds s calls w'.progress.rounds s' calls'
    pub due : SolvedBy w.progress.size s' → ⊥
    pub all : w'.progress.rounds ≡ w.progress.size.n

  abbrev pub SettlesBy : Work → SlicesOf K → ℕ → SlicesOf K → ℕ → Result Settled (Work × Refusal) → Type 0
  SettlesBy w s calls s' calls' (Ok f) = Settles w s calls f s' calls'
  SettlesBy w s calls s' calls' (Err e) =
      (Refused (slice_questions w.progress.size s) e.1 × (e.0 ≡ w) × (s' ≡ s) × (calls' ≡ calls))
      ⊎ ((e.1 ≡ Rounds) × Stops w s calls e.0 s' calls')
