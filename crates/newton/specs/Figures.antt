-- Worked figures: those of the kinds, and what the calls of a sheet leave on small scripts.
use Rattle.std.specs.Prelude.{◌≡◌, ℕ, zero, suc, ◌+◌, List, [], ◌∷◌, ◌++◌, length, take, map, Ok, Err, Result}
use Rattle.semiring.specs.Algebra.{Algebra}
use Rattle.script.specs.declared.branch.Branch.{Branch}
use Rattle.script.specs.declared.refusal.sheet.SheetRefusal.{SheetRefusal as Refusal}
use Rattle.script.specs.declared.refusal.sheet.SheetRefusal.TheVariants.{Solved, Routine}
use Rattle.kinds.specs.declared.weights.Least.{Least}
use Rattle.kinds.specs.Least as Least
use Rattle.kinds.specs.Most as Most
use Rattle.kinds.specs.Laws.Least.{least_algebra}
use Rattle.kinds.specs.Laws.Most.{most_algebra}
use Rattle.kinds.specs.Figures.{figures as kinds_figures}
use Rattle.newton.specs.declared.sheet.Size.{Size}
use Rattle.newton.specs.declared.sheet.Draft.{Draft}
use Rattle.newton.specs.declared.sheet.Work.{Work}
use Rattle.newton.specs.declared.sheet.Settled.{Settled}
use Rattle.newton.specs.Questions.{Passed}
use Rattle.newton.specs.Slices.{SlicesOf}
use Rattle.newton.specs.Working.{slice_questions, Started, Climbed, Closed, Figured, Rounded, SettlesBy}

-- What figure gives for a routine: the value, or its refusal past the last one.
abbrev pub figure_of : {K : Type 0} → List K → ℕ → Result K Refusal
figure_of [] routine = Err Routine
figure_of (v ∷ vs) zero = Ok v
figure_of (v ∷ vs) (suc routine) = figure_of vs routine

-- A settled sheet has made so many rounds, and the values are its figures.
pub record Reads {K : Type 0} (k : Algebra K) (f : Settled) (s : SlicesOf K) (rounds : ℕ) (values : List K) : Type 0 where
  pub rounds_are : f.progress.rounds ≡ rounds
  pub figures_are : (routine : ℕ) (r : Result K Refusal) → Figured k f s.values routine r → r ≡ figure_of values routine

-- A script of n routines, by a kind.
module _ {K : Type 0} (k : Algebra K) (weight : Branch → K) (n : ℕ) (script : List Branch) where
  -- The slices hold the script, and have room for the sheet.
  pub record Holds (size : Size) (s : SlicesOf K) : Type 0 where
    pub routines : size.n ≡ n
    pub held : size.held ≡ length script
    pub branches : take (length script) s.branches ≡ script
    pub weights : take (length script) s.weights ≡ map weight script
    pub asked : Passed (slice_questions k size s)

  -- Some sheet and slices hold it.
  pub record IsHeld : Type 0 where
    pub size : Size
    pub s : SlicesOf K
    pub holds : Holds size s

  -- A sheet at work on the script has made so many rounds, and has come to these values.
  pub record Stands (w : Work) (s : SlicesOf K) (rounds : ℕ) (values : List K) : Type 0 where
    pub holds : Holds w.progress.size s
    pub rounds_are : w.progress.rounds ≡ rounds
    pub values_are : take n s.values ≡ values

  -- Start accepts, and comes to these values.
  abbrev pub StartGives : List K → Type 0
  StartGives values =
      (d : Draft) (s : SlicesOf K) (r : Result Work (Draft × Refusal)) (s' : SlicesOf K) →
      Holds d.size s → Started k d s s' r → (w : Work) × (r ≡ Ok w) × Stands w s' 0 values

  -- A round, or a climb, is accepted, and goes from values to values.
  abbrev pub RoundGives : ℕ → List K → List K → Type 0
  RoundGives rounds before after =
      (w : Work) (s : SlicesOf K) (calls : ℕ) (w' : Work) (s' : SlicesOf K) (calls' : ℕ) (r : Result (Unit {0}) Refusal) →
      Stands w s rounds before → Rounded k w s calls w' s' calls' r → (r ≡ Ok tt) × Stands w' s' (rounds + 1) after

  abbrev pub ClimbGives : ℕ → List K → List K → Type 0
  ClimbGives rounds before after =
      (w : Work) (s s' : SlicesOf K) (r : Result (Unit {0}) Refusal) →
      Stands w s rounds before → Climbed k w s s' r → (r ≡ Ok tt) × Stands w s' rounds after

  -- A round is refused, since the values solve the equations.
  abbrev pub RoundRefused : ℕ → List K → Type 0
  RoundRefused rounds values =
      (w : Work) (s : SlicesOf K) (calls : ℕ) (w' : Work) (s' : SlicesOf K) (calls' : ℕ) (r : Result (Unit {0}) Refusal) →
      Stands w s rounds values → Rounded k w s calls w' s' calls' r → r ≡ Err Solved

  -- Close accepts, and so does settle, which goes on to other values first.
  abbrev pub CloseGives : ℕ → List K → Type 0
  CloseGives rounds values =
      (w : Work) (s : SlicesOf K) (r : Result Settled (Work × Refusal)) →
      Stands w s rounds values → Closed k w s r → (f : Settled) × (r ≡ Ok f) × Reads k f s rounds values

  abbrev pub SettleGives : ℕ → List K → ℕ → List K → Type 0
  SettleGives rounds before rounds' after =
      (w : Work) (s : SlicesOf K) (calls : ℕ) (s' : SlicesOf K) (calls' : ℕ) (r : Result Settled (Work × Refusal)) →
      Stands w s rounds before → SettlesBy k w s calls s' calls' r → (f : Settled) × (r ≡ Ok f) × Reads k f s' rounds' after

-- A branch of a routine: its calls, at most four, and its seconds.
abbrev pub calling : ℕ → List ℕ → ℕ → Branch
calling routine calls seconds = record {
  routine = routine;
  count = length calls;
  calls = take 4 (calls ++ 0 ∷ 0 ∷ 0 ∷ 0 ∷ []);
  seconds = seconds;
  light = 0;
  turn = 0;
}

-- Routine 0 calls 1 twice, 1 calls 2 twice, 2 calls none, 1 second each.
abbrev pub chain : List Branch
chain = calling 0 (1 ∷ 1 ∷ []) 1 ∷ calling 1 (2 ∷ 2 ∷ []) 1 ∷ calling 2 [] 1 ∷ []

-- One routine: 4 seconds without calls, or 0 seconds and itself again.
abbrev pub waiting : List Branch
waiting = calling 0 [] 4 ∷ calling 0 (0 ∷ []) 0 ∷ []

-- One routine that calls itself, whatever it does.
abbrev pub endless : List Branch
endless = calling 0 (0 ∷ []) 1 ∷ []

-- The values of the chain, from start on.
abbrev pub chain_started : List Least
chain_started = Least.zero ∷ Least.zero ∷ Least.seconds 1 ∷ []

abbrev pub chain_once : List Least
chain_once = Least.zero ∷ Least.seconds 3 ∷ Least.seconds 1 ∷ []

abbrev pub chain_solved : List Least
chain_solved = Least.seconds 7 ∷ Least.seconds 3 ∷ Least.seconds 1 ∷ []

abbrev pub sheet_figures : List (Type 0)
sheet_figures =
    -- least: the chain is settled with two rounds
    IsHeld least_algebra Least.weight 3 chain
    ∷ StartGives least_algebra Least.weight 3 chain chain_started
    ∷ RoundGives least_algebra Least.weight 3 chain 0 chain_started chain_once
    ∷ RoundGives least_algebra Least.weight 3 chain 1 chain_once chain_solved
    ∷ SettleGives least_algebra Least.weight 3 chain 0 chain_started 2 chain_solved
    -- a climb in the place of the second round spares it
    ∷ ClimbGives least_algebra Least.weight 3 chain 1 chain_once chain_solved
    ∷ SettleGives least_algebra Least.weight 3 chain 1 chain_solved 1 chain_solved
    -- most: solved from start on
    ∷ IsHeld most_algebra Most.weight 1 waiting
    ∷ StartGives most_algebra Most.weight 1 waiting (Most.seconds 4 ∷ [])
    ∷ RoundRefused most_algebra Most.weight 1 waiting 0 (Most.seconds 4 ∷ [])
    ∷ CloseGives most_algebra Most.weight 1 waiting 0 (Most.seconds 4 ∷ [])
    -- least: a routine without an end takes never
    ∷ IsHeld least_algebra Least.weight 1 endless
    ∷ StartGives least_algebra Least.weight 1 endless (Least.zero ∷ [])
    ∷ CloseGives least_algebra Least.weight 1 endless 0 (Least.zero ∷ [])
    -- no branches: there is no routine to have a figure
    ∷ IsHeld least_algebra Least.weight 0 []
    ∷ StartGives least_algebra Least.weight 0 [] []
    ∷ CloseGives least_algebra Least.weight 0 [] 0 []
    ∷ []

-- All worked figures.
abbrev pub figures : List (Type 0)
figures = kinds_figures ++ sheet_figures
