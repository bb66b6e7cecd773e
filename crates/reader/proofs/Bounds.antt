-- A text has few branches: at most one for each line, and at most one line end for each byte.
use Rattle.std.proofs.Common.{ℕ, suc, ◌+◌, ◌≤◌, ◌==◌, leb, List, [], ◌∷◌, length, Some, None, Option, arith}
use Rattle.std.specs.Str.{bytes_eq}
use Rattle.std.proofs.lemmas.Bool.{cond_both, leb-true}
use Rattle.std.proofs.lemmas.List.Splits.{length-slice_split}
use Rattle.std.proofs.lemmas.List.Sums.{count_by-le-length}
use Rattle.script.specs.declared.branch.Placed.{Placed}
use Rattle.script.specs.declared.refusal.reader.ReaderRefusal.TheVariants.{Size}
use Rattle.script.specs.Feed.{Feed}
use Rattle.reader.specs.Format.{pieces, line_end, space}
use Rattle.script.specs.Legend.{Legend}
use Rattle.reader.specs.Text.{Misread, line_refusal, line_met, line_feed, lines_feed, first_line, behind_first, opened, text_feed, failed, reader_fault}

length-pieces : (sep : ℕ) (xs : List ℕ) → length (pieces sep xs) ≤ length xs + 1
length-pieces sep xs = omega (arith, length-slice_split (λ b. b == sep) xs, count_by-le-length (λ b. b == sep) xs)

line_items : (o : Option Misread) (item : Placed) (others : Feed) (n : ℕ) → length others.items ≤ n → length (line_feed o item others).items ≤ suc n
line_items (Some misread) item others n h = omega arith
line_items None item others n h = omega arith

lines_items : (legend : Legend) (line byte : ℕ) (ls : List (List ℕ)) → length (lines_feed legend line byte ls).items ≤ length ls
lines_items legend line byte [] = omega arith
lines_items legend line byte ([] ∷ []) = omega arith
lines_items legend line byte ((b ∷ bs) ∷ []) = omega arith
lines_items legend line byte (l ∷ m ∷ ls) =
    line_items (line_refusal legend (pieces space l)) _ _ (length (m ∷ ls)) (lines_items (line_met legend (pieces space l)) (line + 1) (byte + length l + 1) (m ∷ ls))

opened_items : (ls : List (List ℕ)) → length (opened (behind_first ls)).items ≤ length ls
opened_items [] = omega arith
opened_items (l ∷ []) = omega arith
opened_items (l ∷ m ∷ ls) =
    cond_both (bytes_eq l first_line) (Some (m ∷ ls)) None (λ o. length (opened o).items ≤ length (l ∷ m ∷ ls))
    (λ e. omega (arith, lines_items [] 2 (length first_line + 1) (m ∷ ls))) (λ e. omega arith)

pub text_items : (text : List ℕ) → length (text_feed text).items ≤ 16385
text_items text =
    cond_both (leb (length text) 16384) (opened (behind_first (pieces line_end text))) (failed (reader_fault Size 0 0)) (λ f. length f.items ≤ 16385)
    (λ e. omega (arith, opened_items (pieces line_end text), length-pieces line_end text, leb-true _ _ e)) (λ e. omega arith)
