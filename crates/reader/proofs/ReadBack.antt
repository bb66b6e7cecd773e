-- A file that is written from branches gives exactly those branches back.
use Rattle.std.proofs.Common.{◌≡◌, ℕ, ◌+◌, ◌≤◌, List, [], ◌∷◌, length, take, None, sym, refl, ap, ◌∙◌, subst, arith}
use Rattle.script.specs.declared.branch.Branch.{Branch}
use Rattle.script.specs.Feed.{Feed}
use Rattle.reader.specs.Format.{pieces, line_end}
use Rattle.script.specs.Legend.{Legend}
use Rattle.reader.specs.Text.{first_line, line_feed, lines_feed, text_feed}
use Rattle.reader.specs.Writing.{mentions, written_line, written_lines, placed_lines, seen_after, GoodNames, GoodBranches, ReadBack}
use Rattle.reader.proofs.LineBack.{seen_within, line_back}
use Rattle.reader.proofs.Opening.{first_feed}

-- with the first `seen` names met
lines_back : (names : Legend) → GoodNames names → (seen line byte : ℕ) (bs : List Branch) → seen ≤ length names → GoodBranches names seen bs → lines_feed (take seen names) line byte (pieces line_end (written_lines names bs)) ≡ record { items = placed_lines names line byte bs; ending = None }
lines_back names good seen line byte [] within fits = refl
lines_back names good seen line byte (b ∷ bs) within fits =
    line_back names good b fits.0 seen within fits.1 line byte (written_lines names bs)
    ∙ ap (line_feed None (record { branch = b; place = record { line = line; byte = byte } }))
    (lines_back names good (seen_after seen (mentions b)) (line + 1) (byte + length (written_line names b) + 1) bs (seen_within names good b fits.0 seen within fits.1) fits.2)

pub read_back : (text : List ℕ) → ReadBack text (text_feed text)
read_back text names bs good fits short same =
    first_feed text (written_lines names bs) short (ap (pieces line_end) same)
    ∙ lines_back names good 0 2 (length first_line + 1) bs (omega arith) fits

-- for a source that gives what the text stands for
pub read_back_as : (text : List ℕ) (feed : Feed) → feed ≡ text_feed text → ReadBack text feed
read_back_as text feed is = subst (ReadBack text) (sym is) (read_back text)
