-- A text with no separator is one piece; up to the first separator, what stands before it is the
-- first piece, and the pieces of what is behind it are the others.
use Rattle.std.proofs.Common.{◌≡◌, ℕ, ◌+◌, ◌-◌, ◌<◌, ◌==◌, Bool, List, [], ◌∷◌, length, take, drop, Some, None, sym, ap, ◌∙◌, arith, length-drop, length-take}
use Rattle.std.specs.List.{position, position_or_len}
use Rattle.std.proofs.lemmas.List.{take_rest}
use Rattle.std.proofs.lemmas.List.Splits.{slice_split_none, slice_split_first, length-slice_split}
use Rattle.std.proofs.lemmas.List.Sums.{fails_before_first}
use Rattle.reader.specs.Format.{pieces}
use Rattle.reader.proofs.Places.{placed, nowhere}

-- there is always one piece
pub pieces_some : (sep : ℕ) (xs : List ℕ) → 0 < length (pieces sep xs)
pieces_some sep xs = omega (arith, length-slice_split (λ b. b == sep) xs)

module _ (sep : ℕ) (text : List ℕ) where
  abbrev parts_at : ℕ → Bool
  parts_at b = b == sep

  pub one_piece : position parts_at text ≡ None → pieces sep text ≡ text ∷ []
  one_piece none = slice_split_none parts_at text (λ k d below. fails_before_first parts_at text k d (omega (arith, nowhere parts_at text none)))

  -- the parts that a cut at the first separator gives
  module _ (i : ℕ) (found : position parts_at text ≡ Some i) where
    abbrev behind : List ℕ
    behind = take (length text - (i + 1)) (drop (i + 1) text)

    first : (position_or_len parts_at text ≡ i) × (i < length text)
    first = placed parts_at text i found

    pub cut_pieces : pieces sep text ≡ take i text ∷ pieces sep behind
    cut_pieces =
        slice_split_first parts_at text 0 (omega (arith, first))
        ∙ (λ j. take (first.0 j) text ∷ pieces sep (drop (first.0 j + 1) text))
        ∙ ap (λ t. take i text ∷ pieces sep t) (sym (take_rest text (i + 1)))

    pub cut_length : length (take i text) + 1 + length behind ≡ length text
    cut_length = simp (length-take, length-drop) (omega (arith, first))
