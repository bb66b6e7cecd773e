-- A text of bytes above the separator is one piece, and the first piece where the separator stands
-- behind it.
use Rattle.std.proofs.Common.{◌≡◌, ℕ, ◌<◌, ◌≤◌, ◌==◌, false, List, [], ◌∷◌, ◌++◌, refl, arith}
use Rattle.std.specs.List.{All}
use Rattle.std.proofs.lemmas.Bool.{eq-eqb, ne_eqb}
use Rattle.std.proofs.lemmas.List.Elements.{All-weaker, All-append, All-cons}
use Rattle.std.proofs.lemmas.List.Splits.{slice_split_none, slice_split_at}
use Rattle.reader.specs.Format.{pieces}

-- every byte is above a bound
abbrev pub Above : ℕ → List ℕ → Type 0
Above low xs = All (λ b. low < b) xs

pub above_less : (low high : ℕ) (xs : List ℕ) → low ≤ high → Above high xs → Above low xs
above_less low high xs less above = All-weaker (λ b. high < b) (λ b. low < b) (λ b h. omega arith) xs above

-- two texts with one more byte between them
pub above_between : (low b : ℕ) (xs ys : List ℕ) → low < b → Above low xs → Above low ys → Above low (xs ++ b ∷ ys)
above_between low b xs ys over left right =
    All-append (λ c. low < c) xs (b ∷ ys) left (All-cons (λ c. low < c) b ys over right)

clear : (sep : ℕ) (xs : List ℕ) → Above sep xs → All (λ b. (b == sep) ≡ false) xs
clear sep xs above = All-weaker (λ b. sep < b) (λ b. (b == sep) ≡ false) (λ b h. ne_eqb b sep (λ e. omega arith)) xs above

pub whole_piece : (sep : ℕ) (xs : List ℕ) → Above sep xs → pieces sep xs ≡ xs ∷ []
whole_piece sep xs above = slice_split_none (λ b. b == sep) xs (clear sep xs above)

pub piece_before : (sep : ℕ) (xs ys : List ℕ) → Above sep xs → pieces sep (xs ++ sep ∷ ys) ≡ xs ∷ pieces sep ys
piece_before sep xs ys above = slice_split_at (λ b. b == sep) xs sep ys (clear sep xs above) (eq-eqb sep sep refl)
