-- The first place at which a test passes, where there is one.
use Rattle.std.proofs.Common.{◌≡◌, ℕ, ◌<◌, ◌≤◌, Bool, true, false, nat_lt, List, length, Some, None, refl}
use Rattle.std.specs.List.{position, position_or_len}
use Rattle.std.proofs.lemmas.Bool.{ltb-true, ltb-false}

module _ {X : Type 0} (p : X → Bool) (xs : List X) where
  pub placed : (i : ℕ) → position p xs ≡ Some i → (position_or_len p xs ≡ i) × (i < length xs)
  placed i found = go (nat_lt (position_or_len p xs) (length xs)) refl
    where
      go : (t : Bool) → nat_lt (position_or_len p xs) (length xs) ≡ t → (position_or_len p xs ≡ i) × (i < length xs)
      go true e = let same : position_or_len p xs ≡ i = cc in (same, rw same at (ltb-true _ _ e))
      go false e = absurd cc

  pub nowhere : position p xs ≡ None → length xs ≤ position_or_len p xs
  nowhere none = go (nat_lt (position_or_len p xs) (length xs)) refl
    where
      go : (t : Bool) → nat_lt (position_or_len p xs) (length xs) ≡ t → length xs ≤ position_or_len p xs
      go true e = absurd cc
      go false e = ltb-false _ _ e
