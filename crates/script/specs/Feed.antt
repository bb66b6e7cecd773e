-- What a source has yet to give: a finite list of branches, each with the place that it comes
-- from, and an ending, which is the plain end or a fault.
use Rattle.std.specs.Prelude.{◌≡◌, List, [], ◌∷◌, Some, None, Ok, Err, Option, Result}
use Rattle.script.specs.declared.branch.Placed.{Placed}
use Rattle.script.specs.declared.fault.Fault.{Fault}

-- no fault: the plain end
abbrev pub Ending : Type 0
Ending = Option Fault

pub record Feed : Type 0 where
  pub items : List Placed
  pub ending : Ending

-- what the ending answers
abbrev pub ends : Ending → Result (Option Placed) Fault
ends None = Ok None
ends (Some fault) = Err fault

-- One call: with branches to come, the first of them, which is dropped; with none, the ending,
-- and the same ending is left.
abbrev pub Gives' : List Placed → Ending → Result (Option Placed) Fault → Feed → Type 0
Gives' [] ending answer left = (answer ≡ ends ending) × (left ≡ record { items = []; ending = ending })
Gives' (item ∷ items) ending answer left = (answer ≡ Ok (Some item)) × (left ≡ record { items = items; ending = ending })

abbrev pub Gives : Feed → Result (Option Placed) Fault → Feed → Type 0
Gives feed answer left = Gives' feed.items feed.ending answer left
