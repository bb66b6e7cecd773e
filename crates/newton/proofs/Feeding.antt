-- What a source that gave a branch had to come.
use Rattle.std.proofs.Common.{◌≡◌, ℕ, List, [], ◌∷◌, Some, None, Ok, sym, ap, arith}
use Rattle.script.specs.declared.branch.Placed.{Placed}
use Rattle.script.specs.Feed.{Feed, Ending, Gives'}

pub gave : (items : List Placed) (ending : Ending) (item : Placed) (left : Feed) → Gives' items ending (Ok (Some item)) left → (items ≡ item ∷ left.items) × (ending ≡ left.ending)
gave [] None item left h = let e = h.0 in let z : ◌≡◌ {A = ℕ} 0 1 = cc in absurd (omega arith)
gave [] (Some fault) item left h = let e = h.0 in let z : ◌≡◌ {A = ℕ} 0 1 = cc in absurd (omega arith)
gave (first ∷ items) ending item left h =
    let e = h.0 in
    let same : first ≡ item = cc in
    ((λ i. same i ∷ sym (ap (λ f. f.items) h.1) i), sym (ap (λ f. f.ending) h.1))
