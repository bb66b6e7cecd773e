-- What the calls of a draft promise: enter and strike. Each is said by cases of the answer, over
-- the draft and both slices before and after.
use Rattle.std.specs.Prelude.{◌≡◌, ℕ, ◌+◌, ◌-◌, ◌<◌, ◌≤◌, max, List, [], ◌∷◌, ◌++◌, length, take, drop, Ok, Err, Result, slice_set}
use Rattle.std.specs.List.{AllByRecursion, between, fold}
use Rattle.script.specs.declared.branch.Branch.{Branch}
use Rattle.script.specs.declared.refusal.sheet.SheetRefusal.{SheetRefusal as Refusal}
use Rattle.script.specs.declared.refusal.sheet.SheetRefusal.TheVariants.{Calls, Routines, Range, Room, Slices, Place}
use Rattle.newton.specs.declared.sheet.Draft.{Draft}
use Rattle.newton.specs.Questions.{Question, Passed, Refused}

-- the numbers that a branch names: its routine and the calls that are counted
abbrev pub named : Branch → List ℕ
named b = b.routine ∷ take b.count b.calls

-- one more than the largest number of a list, or n where that is larger
abbrev pub above : ℕ → List ℕ → ℕ
above n ms = fold (λ top m. max top (m + 1)) n ms

-- Enter: the questions.
abbrev pub enter_questions : {K : Type 0} → Draft → Branch → List Branch → List K → List Question
enter_questions d b branches weights =
    (Calls, b.count ≤ 4)
    ∷ (Routines, AllByRecursion (λ m. m < 32) (named b))
    ∷ (Range, (b.seconds ≤ 3600) × (b.turn ≤ 23))
    ∷ (Room, (d.size.held < 200) × (d.size.held < length branches) × (d.size.held < length weights))
    ∷ []

module _ {K : Type 0} (weight : Branch → K) where
  -- Enter puts the branch and its weight behind the held ones.
  pub record Enters (d : Draft) (b : Branch) (bs : List Branch) (ws : List K) (d' : Draft) (bs' : List Branch) (ws' : List K) : Type 0 where
    pub asked : Passed (enter_questions d b bs ws)
    pub branches : bs' ≡ slice_set bs d.size.held b
    pub weights : ws' ≡ slice_set ws d.size.held (weight b)
    pub n : d'.size.n ≡ above d.size.n (named b)
    pub held : d'.size.held ≡ d.size.held + 1

  abbrev pub Entered : Draft → Branch → List Branch → List K → Draft → List Branch → List K → Result (Unit {0}) Refusal → Type 0
  Entered d b branches weights d' branches' weights' (Ok done) = Enters d b branches weights d' branches' weights'
  Entered d b branches weights d' branches' weights' (Err why) =
      Refused (enter_questions d b branches weights) why × (d' ≡ d) × (branches' ≡ branches) × (weights' ≡ weights)

-- Strike: the questions.
abbrev pub strike_questions : {K : Type 0} → Draft → ℕ → List Branch → List K → List Question
strike_questions d place branches weights = (Slices, (d.size.held ≤ length branches) × (d.size.held ≤ length weights)) ∷ (Place, place < d.size.held) ∷ []

-- The places behind `at` up to `last` moved down one place; the last one keeps what it held.
abbrev pub shifted : {X : Type 0} → ℕ → ℕ → List X → List X
shifted at last xs = take at xs ++ (between (at + 1) (last + 1) xs ++ drop last xs)

-- Strike takes the branch at a place out, and its weight.
pub record Strikes {K : Type 0} (d : Draft) (place : ℕ) (bs : List Branch) (ws : List K) (d' : Draft) (bs' : List Branch) (ws' : List K) : Type 0 where
  pub asked : Passed (strike_questions d place bs ws)
  pub branches : bs' ≡ shifted place (d.size.held - 1) bs
  pub weights : ws' ≡ shifted place (d.size.held - 1) ws
  pub n : d'.size.n ≡ d.size.n
  pub held : d'.size.held ≡ d.size.held - 1

abbrev pub Struck : {K : Type 0} → Draft → ℕ → List Branch → List K → Draft → List Branch → List K → Result (Unit {0}) Refusal → Type 0
Struck d place bs ws d' bs' ws' (Ok done) = Strikes d place bs ws d' bs' ws'
Struck d place bs ws d' bs' ws' (Err why) = Refused (strike_questions d place bs ws) why × (d' ≡ d) × (bs' ≡ bs) × (ws' ≡ ws)
