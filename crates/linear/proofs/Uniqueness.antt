-- Two solvers leave the same column of one system.
use Rattle.std.proofs.Common.{◌≡◌, ℕ, zero, suc, ◌<◌, List, [], ◌∷◌, length, get_or, drop, Ok, Err, Result, sym, ◌∙◌, ap₂, arith}
use Rattle.semiring.specs.Algebra.{Algebra}
use Rattle.linear.specs.declared.refusal.Refusal.{Refusal}
use Rattle.linear.specs.declared.refusal.Refusal.TheVariants.{System}
use Rattle.linear.specs.System.{cell, entry_at}
use Rattle.linear.specs.Solved.{Accepted, Solved}
use Rattle.linear.proofs.Existence.{least_unique}

-- Lists of one length, equal at the first n places and past them.
same_list : {X : Type 0} (d : X) (n : ℕ) (xs ys : List X) → length ys ≡ length xs → ((r : ℕ) → r < n → get_or ys r d ≡ get_or xs r d) → drop n ys ≡ drop n xs → ys ≡ xs
same_list d zero xs ys size front back = back
same_list d (suc n) [] [] size front back = back
same_list d (suc n) [] (y ∷ ys) size front back = absurd (omega arith)
same_list d (suc n) (x ∷ xs) [] size front back = absurd (omega arith)
same_list d (suc n) (x ∷ xs) (y ∷ ys) size front back = ap₂ ◌∷◌ (front zero (omega arith)) (same_list d n xs ys (omega arith) (λ r l. front (suc r) (omega arith)) back)

module _ {K : Type 0} (k : Algebra K) (n calls calls₂ calls' calls₂' : ℕ) (grid column grid' column' : List K) (h : Accepted k n calls grid column calls' grid' column') where
  accepted_alike : (grid₂' column₂' : List K) → Accepted k n calls₂ grid column calls₂' grid₂' column₂' → column₂' ≡ column'
  accepted_alike grid₂' column₂' h₂ =
      same_list k.zero n column' column₂' (h₂.size ∙ sym h.size) (least_unique k n (cell k n grid) (entry_at k column) (entry_at k column₂') (entry_at k column') h₂.leaves.least h.leaves.least) (h₂.leaves.places ∙ sym h.leaves.places)

  -- The second outcome, of an equal system, is the first.
  pub solved_alike : (grid₂ column₂ grid₂' column₂' : List K) → grid₂ ≡ grid → column₂ ≡ column → (r : Result (Unit {0}) Refusal) → Solved k n calls₂ grid₂ column₂ calls₂' grid₂' column₂' r → Solved k n calls grid column calls' grid' column' r × (column₂' ≡ column')
  solved_alike grid₂ column₂ grid₂' column₂' e e' (Ok done) h₂ = (h, accepted_alike grid₂' column₂' (rw (e, e') at h₂))
  solved_alike grid₂ column₂ grid₂' column₂' e e' (Err System) h₂ = absurd (h₂.0 (rw (e, e') h.fits))
