-- The first line of a file.
use Rattle.std.proofs.Common.{◌≡◌, ℕ, ◌+◌, ◌<◌, ◌≤◌, Bool, true, false, cond, List, [], ◌∷◌, length, Some, None, Bor, MatchOption, refl, ap, ◌∙◌, not-suc-le-zero, arith}
use Rattle.std.specs.Bool.{then_some}
use Rattle.std.specs.Str.{bytes_eq}
use Rattle.std.proofs.lemmas.Bool.{le-leb}
use Rattle.script.specs.declared.refusal.reader.ReaderRefusal.TheVariants.{Size}
use Rattle.reader.specs.Format.{pieces, line_end}
use Rattle.reader.specs.Text.{first_line, behind_first, opened, failed, reader_fault, lines_feed, text_feed}
use Rattle.reader.proofs.Pieces.{pieces_some}

behind : (l : List ℕ) (ps : List (List ℕ)) → 0 < length ps → behind_first (l ∷ ps) ≡ cond (bytes_eq l first_line) (Some ps) None
behind l [] some = absurd (not-suc-le-zero some)
behind l (m ∷ ls) some = refl

module _ (text l : List ℕ) where
  -- by whether the line is the first of every file
  pub behind_cut :
      (rest : Bor (List ℕ)) →
      pieces line_end text ≡ l ∷ pieces line_end rest.now →
      length l + 1 + length rest.now ≡ length text →
      MatchOption (then_some (bytes_eq l first_line) rest) (behind_first (pieces line_end text) ≡ None)
      (λ r. (behind_first (pieces line_end text) ≡ Some (pieces line_end r.now)) × (length r.now ≤ length text))
  behind_cut rest cut long = go (bytes_eq l first_line) (ap behind_first cut ∙ behind l _ (pieces_some line_end rest.now))
    where
      go :
          (t : Bool) →
          behind_first (pieces line_end text) ≡ cond t (Some (pieces line_end rest.now)) None →
          MatchOption (then_some t rest) (behind_first (pieces line_end text) ≡ None)
          (λ r. (behind_first (pieces line_end text) ≡ Some (pieces line_end r.now)) × (length r.now ≤ length text))
      go true e = (e, omega arith)
      go false e = e

-- a text that is short enough and begins with the first line
pub first_feed :
    (text rest : List ℕ) →
    length text ≤ 16384 →
    pieces line_end text ≡ first_line ∷ pieces line_end rest →
    text_feed text ≡ lines_feed [] 2 (length first_line + 1) (pieces line_end rest)
first_feed text rest short cut =
    ap (λ t. cond t (opened (behind_first (pieces line_end text))) (failed (reader_fault Size 0 0))) (le-leb _ _ short)
    ∙ ap opened (ap behind_first cut ∙ behind first_line _ (pieces_some line_end rest))
