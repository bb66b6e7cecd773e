-- A line that is written from a branch is refused for nothing and gives the branch back, where
-- the names met so far are the first `seen` of those that it is written with.
use Rattle.std.proofs.Common.{◌≡◌, ℕ, ◌+◌, ◌≤◌, List, ◌∷◌, ◌++◌, map, length, get_or, take, drop, None, decimal, sym, ap, ◌∙◌, arith, length-take}
use lib.ListN.{length-map}
use Rattle.std.proofs.lemmas.Bool.{le-leb}
use Rattle.script.specs.declared.branch.Branch.{Branch}
use Rattle.reader.specs.Format.{pieces, line_end, called}
use Rattle.script.specs.Legend.{Legend, met, all_met, numbers_of}
use Rattle.reader.specs.Text.{four, line_refusal, line_branch, line_met, line_feed, lines_feed}
use Rattle.reader.specs.Writing.{name_of, branch_calls, mentions, written_calls, written_line, GoodNames, GoodBranch, seen_after, AsMet}
use Rattle.reader.proofs.AsMet.{Back, all_back}
use Rattle.reader.proofs.Calling.{longer, all_met_grows}
use Rattle.reader.proofs.Cutting.{piece_before}
use Rattle.reader.proofs.Lines.{feed_at}
use Rattle.reader.proofs.Pieces.{pieces_some}
use Rattle.reader.proofs.Rows.{good_line}
use Rattle.reader.proofs.WrittenCalls.{written_called, written_is_calls}
use Rattle.reader.proofs.WrittenLine.{line_words, calls_length, calls_known, seconds_small, light_small, turn_small, line_pieces, line_above}
use Rattle.reader.proofs.WrittenWords.{decimal_value, decimal_in_range}

module _ (names : Legend) (good : GoodNames names) (b : Branch) (fits : GoodBranch names b) (seen : ℕ) (within : seen ≤ length names) (order : AsMet seen (mentions b)) where
  abbrev legend : Legend
  legend = take seen names

  abbrev name : List ℕ
  name = name_of names b.routine

  abbrev calls : List ℕ
  calls = written_calls names (branch_calls b)

  abbrev ws : List (List ℕ)
  ws = line_words names b

  named : called calls ≡ map (name_of names) (branch_calls b)
  named = written_called names good (branch_calls b) (calls_known names b fits)

  back : Back names seen (mentions b)
  back = all_back names good seen (mentions b) within (fits.routine, calls_known names b fits) order

  pub seen_within : seen_after seen (mentions b) ≤ length names
  seen_within = back.within

  met_is : line_met legend ws ≡ take (seen_after seen (mentions b)) names
  met_is = ap (all_met (met legend name)) named ∙ back.met

  length-met : length (line_met legend ws) ≤ 32
  length-met = omega (arith, ap length met_is, length-take (seen_after seen (mentions b)) names, good.few)

  not_refused : line_refusal legend ws ≡ None
  not_refused =
      good_line legend name (decimal b.seconds) (decimal b.light) (decimal b.turn) calls
      (good.formed b.routine fits.routine)
      (le-leb _ _ (omega (arith, longer _ _ (all_met_grows (met legend name) (called calls)), length-met)))
      (decimal_in_range b.seconds (seconds_small names b fits) 3600 fits.seconds)
      (decimal_in_range b.light (light_small names b fits) 65535 fits.light)
      (decimal_in_range b.turn (turn_small names b fits) 23 fits.turn)
      (written_is_calls names good (branch_calls b) (calls_known names b fits) (omega (arith, calls_length names b fits, fits.count)))
      (le-leb _ _ length-met)

  branch_back : line_branch legend ws ≡ b
  branch_back = λ i. record {
    routine = ap (λ ns. get_or ns 0 0) back.numbers i;
    count = count i;
    calls = places i;
    seconds = decimal_value b.seconds (seconds_small names b fits) i;
    light = decimal_value b.light (light_small names b fits) i;
    turn = decimal_value b.turn (turn_small names b fits) i;
  }
    where
      count : length (called calls) ≡ b.count
      count = ap length named ∙ length-map (branch_calls b) (name_of names) ∙ calls_length names b fits

      places : four (numbers_of (met legend name) (called calls)) ≡ b.calls
      places = ap (λ w. four (numbers_of (met legend name) w)) named ∙ ap (λ ns. four (drop 1 ns)) back.numbers ∙ sym fits.places

  -- the line's branch, in front of what the lines behind it give
  pub line_back :
      (line byte : ℕ) (rest : List ℕ) →
      lines_feed legend line byte (pieces line_end (written_line names b ++ line_end ∷ rest))
      ≡ line_feed None (record { branch = b; place = record { line = line; byte = byte } })
      (lines_feed (take (seen_after seen (mentions b)) names) (line + 1) (byte + length (written_line names b) + 1) (pieces line_end rest))
  line_back line byte rest =
      let l = written_line names b in
      let words = line_pieces names b fits good in
      ap (lines_feed legend line byte) (piece_before line_end l rest (line_above names b fits good))
      ∙ feed_at legend line byte l (pieces line_end rest) (pieces_some line_end rest)
      ∙ (λ i. line_feed (line_refusal legend (words i)) (record { branch = line_branch legend (words i); place = record { line = line; byte = byte } }) (lines_feed (line_met legend (words i)) (line + 1) (byte + length l + 1) (pieces line_end rest)))
      ∙ (λ i. line_feed (not_refused i) (record { branch = branch_back i; place = record { line = line; byte = byte } }) (lines_feed (met_is i) (line + 1) (byte + length l + 1) (pieces line_end rest)))
