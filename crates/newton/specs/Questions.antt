-- The questions that a call goes through in order. It accepts exactly where every one is answered
-- yes, and else refuses by the number of the first no.
use Rattle.std.specs.Prelude.{◌≡◌, ◌⊎◌, List, [], ◌∷◌, Ok, Err, Result}
use Rattle.script.specs.declared.refusal.sheet.SheetRefusal.{SheetRefusal as Refusal}

-- A question, with the refusal that a no to it gives.
abbrev pub Question : Type 1
Question = Refusal × Type 0

-- Every question is answered yes.
abbrev pub Passed : List Question → Type 0
Passed [] = Unit {0}
Passed (q ∷ qs) = q.1 × Passed qs

-- The first no gives this refusal.
abbrev pub Refused : List Question → Refusal → Type 0
Refused [] why = ⊥
Refused (q ∷ qs) why = ((q.1 → ⊥) × (why ≡ q.0)) ⊎ (q.1 × Refused qs why)

-- What a check of the questions answers.
abbrev pub Asked : List Question → Result (Unit {0}) Refusal → Type 0
Asked qs (Ok done) = Passed qs
Asked qs (Err why) = Refused qs why
