-- A line that is written from a branch: its words are the five, and it has no line end.
use Rattle.std.proofs.Common.{◌≡◌, ℕ, ◌^◌, ◌<◌, List, [], ◌∷◌, ◌++◌, length, decimal, sym, ap, ◌∙◌, subst, arith}
use Rattle.std.proofs.ByRecursion.{All-from_get_or}
use Rattle.std.proofs.lemmas.List.{get_or-take, length-take-le}
use Rattle.script.specs.declared.branch.Branch.{Branch}
use Rattle.reader.specs.Format.{pieces, line_end, space}
use Rattle.script.specs.Legend.{Legend}
use Rattle.reader.specs.Writing.{name_of, branch_calls, written_calls, written_line, GoodNames, GoodBranch}
use Rattle.reader.proofs.Cutting.{Above, above_less, above_between, whole_piece, piece_before}
use Rattle.reader.proofs.Rows.{length-four}
use Rattle.reader.proofs.WrittenCalls.{HaveNames, name_of_above, written_calls_above}
use Rattle.reader.proofs.WrittenWords.{decimal_above}

number_spaceless : (n : ℕ) → n < 2 ^ 64 → Above space (decimal n)
number_spaceless n small = above_less space 47 (decimal n) (omega arith) (decimal_above n small)

-- the five words
abbrev pub line_words : Legend → Branch → List (List ℕ)
line_words names b = name_of names b.routine ∷ decimal b.seconds ∷ decimal b.light ∷ decimal b.turn ∷ written_calls names (branch_calls b) ∷ []

module _ (names : Legend) (b : Branch) (fits : GoodBranch names b) where
  pub calls_length : length (branch_calls b) ≡ b.count
  calls_length = length-take-le b.count b.calls (omega (arith, fits.count, ap length fits.places, length-four (branch_calls b)))

  pub calls_known : HaveNames names (branch_calls b)
  calls_known =
      All-from_get_or (λ m. m < length names) (branch_calls b) 0
      (λ i below. let counted : i < b.count = omega (arith, calls_length) in subst (λ m. m < length names) (sym (get_or-take b.count b.calls i 0 counted)) (fits.calls i counted))

  -- small enough for the laws of decimals
  pub seconds_small : b.seconds < 2 ^ 64
  seconds_small = omega (arith, fits.seconds)

  pub light_small : b.light < 2 ^ 64
  light_small = omega (arith, fits.light)

  pub turn_small : b.turn < 2 ^ 64
  turn_small = omega (arith, fits.turn)

  module _ (good : GoodNames names) where
    name_spaceless : Above space (name_of names b.routine)
    name_spaceless = name_of_above names good space b.routine (omega arith) fits.routine

    seconds_spaceless : Above space (decimal b.seconds)
    seconds_spaceless = number_spaceless b.seconds seconds_small

    light_spaceless : Above space (decimal b.light)
    light_spaceless = number_spaceless b.light light_small

    turn_spaceless : Above space (decimal b.turn)
    turn_spaceless = number_spaceless b.turn turn_small

    calls_spaceless : Above space (written_calls names (branch_calls b))
    calls_spaceless = written_calls_above names good (branch_calls b) calls_known

    pub line_pieces : pieces space (written_line names b) ≡ line_words names b
    line_pieces = first _ _ name_spaceless (first _ _ seconds_spaceless (first _ _ light_spaceless (first _ _ turn_spaceless (whole_piece space _ calls_spaceless))))
      where
        first : (w rest : List ℕ) → {ws : List (List ℕ)} → Above space w → pieces space rest ≡ ws → pieces space (w ++ space ∷ rest) ≡ w ∷ ws
        first w rest above others = piece_before space w rest above ∙ ap (λ ps. w ∷ ps) others

    pub line_above : Above line_end (written_line names b)
    line_above = first _ _ name_spaceless (first _ _ seconds_spaceless (first _ _ light_spaceless (first _ _ turn_spaceless (over _ calls_spaceless))))
      where
        over : (w : List ℕ) → Above space w → Above line_end w
        over w above = above_less line_end space w (omega arith) above

        first : (w rest : List ℕ) → Above space w → Above line_end rest → Above line_end (w ++ space ∷ rest)
        first w rest above others = above_between line_end space w rest (omega arith) (over w above) others
