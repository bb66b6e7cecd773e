-- What the bytes of a script file stand for: a list of branches with their places, an ending,
-- and the names of the routines by number.
use Rattle.std.specs.Prelude.{ℕ, zero, suc, ◌+◌, Bool, true, false, cond, List, [], ◌∷◌, ◌++◌, length, take, replicate, Some, None, codes, Option, ◌==◌, nat_le, slice_index_or}
use Rattle.std.specs.Str.{bytes_eq}
use Rattle.script.specs.declared.branch.Branch.{Branch}
use Rattle.script.specs.declared.branch.Placed.{Placed}
use Rattle.script.specs.declared.fault.Fault.{Fault}
use Rattle.script.specs.declared.fault.Cause.TheVariants.{Reader}
use Rattle.script.specs.declared.refusal.reader.ReaderRefusal.{ReaderRefusal as Refusal}
use Rattle.script.specs.declared.refusal.reader.ReaderRefusal.TheVariants.{Size, FirstLine, Words, Name, Number, Calls, Names}
use Rattle.script.specs.Feed.{Feed}
use Rattle.reader.specs.Format.{pieces, line_end, space, is_name, in_range, value, called, is_calls}
use Rattle.script.specs.Legend.{Legend, number_of, met, all_met, numbers_of}

abbrev pub reader_fault : Refusal → ℕ → ℕ → Fault
reader_fault why line byte = record { cause = Reader why; place = record { line = line; byte = byte } }

-- A refusal within a line: what for, and how far behind the line's start.
abbrev pub Misread : Type 0
Misread = Refusal × ℕ

-- A question: where the answer is no, that is the refusal, else the later questions are asked.
abbrev pub asked : Bool → Refusal → ℕ → Option Misread → Option Misread
asked true why at later = later
asked false why at later = Some (why, at)

-- how far behind the line's start a word begins
abbrev pub offset : List (List ℕ) → ℕ → ℕ
offset words zero = 0
offset [] (suc k) = 0
offset (w ∷ ws) (suc k) = length w + 1 + offset ws k

-- The words of a line, in the order of the first line of every file.
abbrev pub name_word : List (List ℕ) → List ℕ
name_word ws = slice_index_or ws 0 []

abbrev pub seconds_word : List (List ℕ) → List ℕ
seconds_word ws = slice_index_or ws 1 []

abbrev pub light_word : List (List ℕ) → List ℕ
light_word ws = slice_index_or ws 2 []

abbrev pub turn_word : List (List ℕ) → List ℕ
turn_word ws = slice_index_or ws 3 []

abbrev pub calls_word : List (List ℕ) → List ℕ
calls_word ws = slice_index_or ws 4 []

-- the legend once a line's routine has been met, and once its calls have been met as well
abbrev pub routine_met : Legend → List (List ℕ) → Legend
routine_met legend ws = met legend (name_word ws)

abbrev pub line_met : Legend → List (List ℕ) → Legend
line_met legend ws = all_met (routine_met legend ws) (called (calls_word ws))

-- at most 32 different names
abbrev pub few : Legend → Bool
few legend = nat_le (length legend) 32

-- The questions that the words of a line are asked, in order.
abbrev pub line_refusal : Legend → List (List ℕ) → Option Misread
line_refusal legend ws =
    asked (length ws == 5) Words 0
    (asked (is_name (name_word ws)) Name 0
    (asked (few (routine_met legend ws)) Names 0
    (asked (in_range 3600 (seconds_word ws)) Number (offset ws 1)
    (asked (in_range 65535 (light_word ws)) Number (offset ws 2)
    (asked (in_range 23 (turn_word ws)) Number (offset ws 3)
    (asked (is_calls (calls_word ws)) Calls (offset ws 4)
    (asked (few (line_met legend ws)) Names (offset ws 4) None)))))))

-- four call places, those that are not used holding 0
abbrev pub four : List ℕ → List ℕ
four ns = take 4 (ns ++ replicate 4 0)

-- The branch of a line that is refused for nothing.
abbrev pub line_branch : Legend → List (List ℕ) → Branch
line_branch legend ws = record {
  routine = number_of legend (name_word ws);
  count = length (called (calls_word ws));
  calls = four (numbers_of (routine_met legend ws) (called (calls_word ws)));
  seconds = value (seconds_word ws);
  light = value (light_word ws);
  turn = value (turn_word ws);
}

abbrev pub failed : Fault → Feed
failed fault = record { items = []; ending = Some fault }

abbrev pub ended : Feed
ended = record { items = []; ending = None }

-- what a line comes to: its refusal, or its branch in front of what the lines behind it give
abbrev pub line_feed : Option Misread → Placed → Feed → Feed
line_feed (Some misread) item others = failed (reader_fault misread.0 item.place.line (item.place.byte + misread.1))
line_feed None item others = record { items = item ∷ others.items; ending = others.ending }

-- The lines behind the first one, of which the next has the number `line` and begins at `byte`.
-- What stands behind the last byte 10 is a line without its end, unless it is empty.
abbrev pub lines_feed : Legend → ℕ → ℕ → List (List ℕ) → Feed
lines_feed legend line byte [] = ended
lines_feed legend line byte ([] ∷ []) = ended
lines_feed legend line byte ((b ∷ bs) ∷ []) = failed (reader_fault Words line byte)
lines_feed legend line byte (l ∷ m ∷ ls) =
    line_feed (line_refusal legend (pieces space l)) (record { branch = line_branch legend (pieces space l); place = record { line = line; byte = byte } })
    (lines_feed (line_met legend (pieces space l)) (line + 1) (byte + length l + 1) (m ∷ ls))

-- the legend behind a line: a line that is refused ends it
abbrev pub line_legend : Option Misread → Legend → Legend → Legend
line_legend (Some misread) before after = before
line_legend None before after = after

-- the legend once those lines have been read
abbrev pub lines_legend : Legend → List (List ℕ) → Legend
lines_legend legend [] = legend
lines_legend legend (l ∷ []) = legend
lines_legend legend (l ∷ m ∷ ls) = line_legend (line_refusal legend (pieces space l)) legend (lines_legend (line_met legend (pieces space l)) (m ∷ ls))

-- The first line of every file.
abbrev pub first_line : List ℕ
first_line = codes "routine seconds light turn calls"

-- what is behind the first line, where it is that line with its end
abbrev pub behind_first : List (List ℕ) → Option (List (List ℕ))
behind_first [] = None
behind_first (l ∷ []) = None
behind_first (l ∷ m ∷ ls) = cond (bytes_eq l first_line) (Some (m ∷ ls)) None

-- the whole file
abbrev pub opened : Option (List (List ℕ)) → Feed
opened None = failed (reader_fault FirstLine 1 0)
opened (Some ls) = lines_feed [] 2 (length first_line + 1) ls

abbrev pub text_feed : List ℕ → Feed
text_feed text = cond (nat_le (length text) 16384) (opened (behind_first (pieces line_end text))) (failed (reader_fault Size 0 0))

abbrev pub opened_legend : Option (List (List ℕ)) → Legend
opened_legend None = []
opened_legend (Some ls) = lines_legend [] ls

abbrev pub text_legend : List ℕ → Legend
text_legend text = cond (nat_le (length text) 16384) (opened_legend (behind_first (pieces line_end text))) []
