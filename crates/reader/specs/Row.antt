-- What the parts of one line hold, as the reader takes them apart.
use Rattle.std.specs.Prelude.{◌≡◌, ℕ, ◌+◌, ◌<◌, ◌≤◌, true, false, ◌⊎◌, List, [], ◌∷◌, length, Some, None, Ok, Err, Option, Result, ◌==◌}
use Rattle.arrayvec.specs.ArrayVec.{ArrayVec}
use Rattle.script.specs.declared.branch.Branch.{Branch}
use Rattle.script.specs.declared.fault.Fault.{Fault}
use Rattle.script.specs.declared.place.Place.{Place}
use Rattle.reader.specs.declared.line.Row.{Row}
use Rattle.script.specs.declared.refusal.reader.ReaderRefusal.{ReaderRefusal as Refusal}
use Rattle.script.specs.declared.refusal.reader.ReaderRefusal.TheVariants.{Words, Name, Number, Names, Calls as BadCalls}
use Rattle.reader.specs.Format.{pieces, space, is_name, in_range, value, called, is_calls}
use Rattle.script.specs.Legend.{Legend, number_of, met, all_met, numbers_of}
use Rattle.reader.specs.Text.{offset, few, line_refusal, line_branch, line_met, reader_fault, Misread}

-- the five words
abbrev pub row_words : Row → List (List ℕ)
row_words w = w.name.now ∷ w.seconds.now ∷ w.light.now ∷ w.turn.now ∷ w.calls.now ∷ []

-- a line is the five words of a row
abbrev pub HasWords : List ℕ → Row → Type 0
HasWords line row = (pieces space line ≡ row_words row) × (offset (row_words row) 4 + length row.calls.now ≡ length line)

-- Names that are numbered from the left; none where there would be more than 32 names.
abbrev pub Numbers : Legend → List (List ℕ) → Option (ArrayVec ℕ) → Legend → Type 0
Numbers before words None after = 32 < length (all_met before words)
Numbers before words (Some calls) after =
    (length (all_met before words) ≤ 32) × (calls.items ≡ numbers_of before words) × (after ≡ all_met before words)

-- a refusal at a place
abbrev pub fault_at : Place → Refusal → Fault
fault_at at why = reader_fault why at.line at.byte

-- What is read of a line at a place: its five words, or the fault.
abbrev pub FiveWords : List ℕ → Place → Result Row Fault → Type 0
FiveWords line at (Ok row) = HasWords line row
FiveWords line at (Err fault) = ((length (pieces space line) == 5) ≡ false) × (fault ≡ fault_at at Words)

-- What is read of a number's word at a place: its value, or the fault.
abbrev pub Column : ℕ → List ℕ → Place → Result ℕ Fault → Type 0
Column most word at (Ok n) = (in_range most word ≡ true) × (n ≡ value word)
Column most word at (Err fault) = (in_range most word ≡ false) × (fault ≡ fault_at at Number)

-- What is read of a routine's word at a place: its number and the name met, or the fault.
abbrev pub Routine : Legend → List ℕ → Place → Result ℕ Fault → Legend → Type 0
Routine before word at (Ok n) after =
    (is_name word ≡ true) × (few (met before word) ≡ true) × (n ≡ number_of before word) × (after ≡ met before word)
Routine before word at (Err fault) after =
    ((is_name word ≡ false) × (fault ≡ fault_at at Name))
    ⊎ ((is_name word ≡ true) × (few (met before word) ≡ false) × (fault ≡ fault_at at Names))

-- What is read of a calls word at a place: the calls by number and their names met, or the fault.
abbrev pub Called : Legend → List ℕ → Place → Result (ArrayVec ℕ) Fault → Legend → Type 0
Called before word at (Ok calls) after =
    (is_calls word ≡ true) × (few (all_met before (called word)) ≡ true)
    × (calls.items ≡ numbers_of before (called word)) × (after ≡ all_met before (called word))
Called before word at (Err fault) after =
    ((is_calls word ≡ false) × (fault ≡ fault_at at BadCalls))
    ⊎ ((is_calls word ≡ true) × (few (all_met before (called word)) ≡ false) × (fault ≡ fault_at at Names))

-- A line that begins at a place is refused: its fault is that of the first question that is
-- answered no.
abbrev pub Refuses : Legend → List (List ℕ) → Place → Fault → Type 0
Refuses before words place fault =
    (misread : Misread) × (line_refusal before words ≡ Some misread) × (fault ≡ reader_fault misread.0 place.line (place.byte + misread.1))

-- What is read of a line: its branch, with the names met by then, or the fault.
abbrev pub Reads : Legend → List (List ℕ) → Place → Result Branch Fault → Legend → Type 0
Reads before words place (Ok branch) after =
    (line_refusal before words ≡ None) × (branch ≡ line_branch before words) × (after ≡ line_met before words)
Reads before words place (Err fault) after = Refuses before words place fault
