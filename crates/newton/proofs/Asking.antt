-- A refusal stays one when more questions follow.
use Rattle.std.proofs.Common.{List, [], ◌∷◌, ◌++◌, inl, inr}
use Rattle.script.specs.declared.refusal.sheet.SheetRefusal.{SheetRefusal as Refusal}
use Rattle.newton.specs.Questions.{Question, Refused}

pub refused_more : (qs rs : List Question) (why : Refusal) → Refused qs why → Refused (qs ++ rs) why
refused_more [] rs why h = absurd h
refused_more (q ∷ qs) rs why (inl no') = inl no'
refused_more (q ∷ qs) rs why (inr yes') = inr (yes'.0, refused_more qs rs why yes'.1)
