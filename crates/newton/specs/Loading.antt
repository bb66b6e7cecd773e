-- What load promises: the branches of a source are entered one after the other; a refused one
-- becomes a fault with the branch's place, and a source's fault is passed up whole. What was
-- entered before stays.
use Rattle.std.specs.Prelude.{◌≡◌, ◌⊎◌, List, [], ◌∷◌, Some, None, Ok, Err, Result}
use Rattle.script.specs.declared.branch.Branch.{Branch}
use Rattle.script.specs.declared.branch.Placed.{Placed}
use Rattle.script.specs.declared.fault.Fault.{Fault}
use Rattle.script.specs.declared.fault.Cause.TheVariants.{Sheet}
use Rattle.script.specs.Feed.{Ending}
use Rattle.script.specs.declared.refusal.sheet.SheetRefusal.{SheetRefusal as Refusal}
use Rattle.newton.specs.declared.sheet.Draft.{Draft}
use Rattle.newton.specs.Questions.{Refused}
use Rattle.newton.specs.Drafting.{enter_questions, Enters}

-- the fault of a branch that the sheet refuses
abbrev pub sheet_fault : Refusal → Placed → Fault
sheet_fault why item = record { cause = Sheet why; place = item.place }

abbrev pub ended_by : Ending → Result (Unit {0}) Fault
ended_by None = Ok tt
ended_by (Some fault) = Err fault

module _ {K : Type 0} (weight : Branch → K) where
  -- A branch is refused: with its fault, and with nothing changed.
  pub record TurnedAway (item : Placed) (d : Draft) (bs : List Branch) (ws : List K) (d' : Draft) (bs' : List Branch) (ws' : List K) (fault : Fault) : Type 0 where
    pub why : Refusal
    pub refused : Refused (enter_questions d item.branch bs ws) why
    pub fault_is : fault ≡ sheet_fault why item
    pub draft : d' ≡ d
    pub branches : bs' ≡ bs
    pub weights : ws' ≡ ws

  -- One branch of a source.
  abbrev pub Taken : Placed → Draft → List Branch → List K → Draft → List Branch → List K → Result (Unit {0}) Fault → Type 0
  Taken item d bs ws d' bs' ws' (Ok done) = Enters weight d item.branch bs ws d' bs' ws'
  Taken item d bs ws d' bs' ws' (Err fault) = TurnedAway item d bs ws d' bs' ws' fault

  -- All branches to come, and the ending.
  abbrev pub Loads : List Placed → Ending → Draft → List Branch → List K → Draft → List Branch → List K → Result (Unit {0}) Fault → Type 0
  Loads [] ending d bs ws d' bs' ws' r = (r ≡ ended_by ending) × (d' ≡ d) × (bs' ≡ bs) × (ws' ≡ ws)
  Loads (item ∷ items) ending d bs ws d' bs' ws' r =
      ((fault : Fault) × (r ≡ Err fault) × TurnedAway item d bs ws d' bs' ws' fault)
      ⊎ ((d₁ : Draft) × (bs₁ : List Branch) × (ws₁ : List K) × Enters weight d item.branch bs ws d₁ bs₁ ws₁ × Loads items ending d₁ bs₁ ws₁ d' bs' ws' r)
