-- What a sheet takes in of a script: its rules, how many routines they have, and where it is refused.
use Rattle.std.specs.Prelude.{ℕ, ◌<◌, ◌≤◌, List, [], ◌∷◌, map, drop, Some}
use Rattle.std.specs.List.{AllByRecursion}
use Rattle.script.specs.declared.branch.Branch.{Branch}
use Rattle.script.specs.declared.branch.Placed.{Placed}
use Rattle.script.specs.declared.refusal.sheet.SheetRefusal.TheVariants.{Room}
use Rattle.script.specs.Feed.{Ending, Feed}
use Rattle.equations.specs.Rule.{Rule}
use Rattle.equations.specs.Held.{rule_of}
use Rattle.newton.specs.Drafting.{named, above}
use Rattle.newton.specs.Loading.{sheet_fault}

-- one more than the largest number that the branches name, or n where that is larger
abbrev pub routines_from : ℕ → List Placed → ℕ
routines_from n [] = n
routines_from n (item ∷ items) = routines_from (above n (named item.branch)) items

abbrev pub routines : List Placed → ℕ
routines items = routines_from 0 items

-- each branch with its weight
abbrev pub rules : {K : Type 0} → (Branch → K) → List Placed → List (Rule K)
rules weight items = map (λ item. rule_of item.branch (weight item.branch)) items

-- A branch that a sheet refuses for nothing but want of room.
pub record InRange (b : Branch) : Type 0 where
  pub calls : b.count ≤ 4
  pub routines : AllByRecursion (λ m. m < 32) (named b)
  pub seconds : b.seconds ≤ 3600
  pub turn : b.turn ≤ 23

abbrev pub AllInRange : List Placed → Type 0
AllInRange [] = Unit {0}
AllInRange (item ∷ items) = InRange item.branch × AllInRange items

-- the fault of the first branch, for which there is no room, or else what the script ends in
abbrev pub refused_or : List Placed → Ending → Ending
refused_or [] ending = ending
refused_or (item ∷ items) ending = Some (sheet_fault Room item)

-- A sheet has room for 200 branches.
abbrev pub fault_of : Feed → Ending
fault_of feed = refused_or (drop 200 feed.items) feed.ending
