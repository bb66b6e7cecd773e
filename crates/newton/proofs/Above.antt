-- One more than the largest of some numbers.
use Rattle.std.proofs.Common.{◌≡◌, ℕ, ◌+◌, ◌<◌, ◌≤◌, max, List, [], ◌∷◌, arith}
use Rattle.std.specs.List.{AllByRecursion}
use Rattle.newton.specs.Drafting.{above}

above_within : (top n : ℕ) (ms : List ℕ) → n ≤ top → AllByRecursion (λ m. m < top) ms → above n ms ≤ top
above_within top n [] small all = small
above_within top n (m ∷ ms) small all = above_within top (max n (m + 1)) ms (omega (arith, all.0)) all.1

pub raised_within : (top n r : ℕ) (ms : List ℕ) → r ≡ above n ms → n ≤ top → AllByRecursion (λ m. m < top) ms → r ≤ top
raised_within top n r ms is small all = omega (arith, is, above_within top n ms small all)
